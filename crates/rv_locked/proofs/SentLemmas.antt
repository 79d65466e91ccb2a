-- What the workers share may be sent to their threads.
use denote.RattleType.{RattleType}
use denote.Param.Send.{IsSend, IsSync, sendable}
use Rattle.std.proofs.Crossing.{crosses}
use Rattle.rv_break.proofs.breakpoints.Breakpoints.TheSendSync as breakpoints
use Rattle.rv_collide.proofs.ending.Ending.TheSendSync as ending
use Rattle.rv_collide.proofs.entry.Entry.TheSendSync as entry
use Rattle.rv_collide.proofs.open_pause.OpenPause.TheSendSync as open_pause
use Rattle.rv_collide.specs.contracts.collider.Collider as collider
use Rattle.rv_elf.proofs.image.Image.TheSendSync as image
use Rattle.rv_hart.proofs.machine.Machine.TheSendSync as machine
use Rattle.rv_memory.proofs.flat.Flat.TheSendSync as flat
use Rattle.rv_memory.specs.declared.store.ByteStore.{Ghosts}
use Rattle.rv_sample.proofs.sampler.Sampler.TheSendSync as sampler
use Rattle.rv_sample.proofs.generator.Generator.TheSendSync as words
use Rattle.rv_drive.specs.contracts.ahead.Ahead as ahead
use Rattle.rv_drive.specs.contracts.driver.Driver as driver
use Rattle.rv_locked.specs.contracts.watched.Watched as watched
use Rattle.rv_locked.specs.contracts.worker.Shared as shared
use Rattle.rv_drive.specs.declared.gate.Gate as gate
use Rattle.rv_locked.proofs.worker.Record.TheSendSync as recorded

collider_send : (T : RattleType) (g : Ghosts T.Denot) → IsSend T → IsSend (collider.the_row T g)
collider_send T g s =
    let m = machine.the_send T g s in
    search (breakpoints.the_send, ending.the_send, entry.the_send, open_pause.the_send, sendable, crosses) depth 60 fits 20000

ahead_send : IsSend ahead.the_row
ahead_send = search (collider_send, flat.the_send, sendable, crosses) depth 60 fits 20000

driver_send : IsSend driver.the_row
driver_send = search (sendable, crosses) depth 60 fits 20000

watched_send : IsSend watched.the_row
watched_send = search (driver_send, sampler.the_send, words.the_send, image.the_send, sendable, crosses) depth 60 fits 20000

pub shared_sync : (T T' : RattleType) (g : gate.Ghosts T.Denot T'.Denot) → IsSend T' → IsSync (shared.the_row T T' g)
shared_sync T T' g s =
    let r = recorded.the_send T T' g s in
    search (watched_send, sendable, crosses) depth 60 fits 20000
