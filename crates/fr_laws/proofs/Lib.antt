mod HopsAlong  -- next hops along links without a cycle
mod HopsRead  -- next hops that replies show
mod InOrder  -- which call came first, as callers see it
mod InTime  -- and as an observer of all steps sees it
mod QuietEnds  -- what shows that no node can turn
-- Whom a change touches
mod ChangeRounds  -- the round after a change begins with a network
mod TurnsAfter  -- who turns in it, and who keeps its hop
mod AfterAdds  -- whom an added link leaves alone
mod AfterCuts  -- whom a cut link leaves alone
mod Gaining  -- who gains a way, and where the ways of the others lead
-- Routers without a controller
mod ListedOnce  -- links of which no two lead to the same neighbour
mod Announcing  -- what one call announces
mod NetworkSteps  -- one step turns a sink, or leaves the links as they are
mod AnnouncementRuns  -- the announcements are a run
mod QuietRouters  -- where nothing more happens, none can turn
mod NodeCalls  -- what the calls of a node ensure
mod TwoRouters  -- two routers, of which one announces a height
