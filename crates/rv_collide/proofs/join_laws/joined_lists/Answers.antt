use Rattle.rv_collide.proofs.JoinedLegal.{joined_is_legal, room_is_enough}
use Rattle.rv_collide.proofs.JoinedPlans.{needs_no_more}
use Rattle.rv_collide.proofs.JoinedLists.{lists_join}
use Rattle.rv_collide.proofs.join_laws.joined_lists.Goals as goal

pub returns-clause-joined : goal.returns-clause-joined
returns-clause-joined c = lists_join

pub returns-clause-legal : goal.returns-clause-legal
returns-clause-legal c = joined_is_legal

pub returns-clause-room : goal.returns-clause-room
returns-clause-room c = room_is_enough

pub returns-clause-needs : goal.returns-clause-needs
returns-clause-needs c = needs_no_more
