use denote.Param.Send.{sendable}
use Rattle.std.proofs.Crossing.{crosses}
use Rattle.std.proofs.MapsCrossing.{crosses as crossing_maps}
use Rattle.rv_search.proofs.aim.Aim.TheSendSync as aim
use Rattle.rv_tables.proofs.table.HuntTable.TheSendSync as table
use Rattle.rv_hunt.proofs.engine.remaking.made.Goals as goal

pub all_made-requires-sync-J : goal.all_made-requires-sync-J
all_made-requires-sync-J g c κs within = search (table.the_sync, aim.the_sync, sendable, crosses, crossing_maps) depth 60 fits 100000
