use Rattle.std.proofs.Common.{◌≡◌, ◌≤◌, length, arith}
use Rattle.std.specs.Vec.{vec_len}
use Rattle.std.proofs.lemmas.Bool.Decides.{nat_tests}
use Rattle.std.proofs.lemmas.Grind.{common_steps}
use Rattle.rv_asm.proofs.SoundLemmas.{is_sound}
use Rattle.rv_asm.proofs.assembly.assembled.Goals as goal

pub image_of-requires : goal.image_of-requires
image_of-requires c =
    let found = c.in_ok-sections.ensures {u = tt} in
    let size : vec_len c.in-Ok.sections.text ≡ length c.in-Ok.sections.text.items = c.in-Ok.sections.text.ok.0 in
    let some : 1 ≤ length c.in-Ok.sections.text.items = first_of (grind (arith, nat_tests), grind (arith, nat_tests, common_steps)) in
    is_sound c.args.source.now c.in_ok-labels.labels c.in-Ok.sections.text.items c.in-Ok.sections.writable.items (c.in_ok-labels.ensures {u = tt})
    (rw c.in-Ok.is at found.fault) (rw c.in-Ok.is at found.text) (rw c.in-Ok.is at found.writable) some
