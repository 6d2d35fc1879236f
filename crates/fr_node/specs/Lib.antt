pub mod Bytes  -- messages as bytes
pub mod Routers  -- networks of routers, and what can happen in them
pub mod Laws  -- the laws of these networks
pub mod Tables  -- forwarding tables of routers, and the laws of these
pub mod Links  -- what a node knows of its neighbours
pub mod Histories  -- what a node has announced
pub mod Distances  -- how far a node is from a gateway
pub mod Policies  -- which height a node announces, and when it uses it
pub mod Nodes  -- which router of the laws a node is
pub mod Events  -- a node at its start, after an event, and when it says a message
pub mod Arrivals  -- where packets end, once nothing more happens
pub mod Daemons  -- daemons that call nodes and write tables
pub mod Prefixes  -- forwarding by the longest prefix
pub mod Paths  -- how many heights routers on a path announce, whatever else happens
pub mod Lowerings  -- the same of routers that may lower their heights
pub mod Heights  -- how often a router announces the same height
pub mod Shortest  -- routes of least cost, once nothing more happens
pub mod Repeats  -- messages that are heard again
pub mod OneWay  -- links that work one way
pub mod Rests  -- how many heights routers below a ceiling announce together
