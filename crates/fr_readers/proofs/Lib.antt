mod Leading  -- the push order from the hops of a session to those after a call
mod Bringing  -- a table that has the hops of a session, and what pushes make of it
mod Telling  -- when a line leaves the session unchanged, and when it leads to other hops
mod FirstWays  -- the first ways of a session as a table, and when it is unchanged
mod Altered  -- the first ways after a change, of which only some nodes have others than before
