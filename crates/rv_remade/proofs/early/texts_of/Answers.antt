use denote.Param.Send.{sendable}
use Rattle.std.proofs.Crossing.{crosses}
use Rattle.std.proofs.MapsCrossing.{crosses as crossing_maps}
use Rattle.rv_search.proofs.aim.Aim.TheSendSync as aim
use Rattle.rv_tables.proofs.row.RaceRow.TheSendSync as row
use Rattle.rv_report.proofs.key.Key.TheSendSync as key
use Rattle.rv_remade.proofs.early.texts_of.Goals as goal

pub all_made-requires-sync-J : goal.all_made-requires-sync-J
all_made-requires-sync-J g c κs within = search (row.the_sync, row.the_field_sync, key.the_sync, key.the_field_sync, aim.the_sync, sendable, crosses, crossing_maps) depth 60 fits 100000
