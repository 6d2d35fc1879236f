pub mod Marks  -- marks after one was set
pub mod Opening  -- a node is put on the path
pub mod Leaving  -- a node is removed from the path
pub mod Reading  -- more of a row is read
pub mod Ending  -- how the search begins and ends
