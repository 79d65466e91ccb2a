use Rattle.std.proofs.Common.{subst, sym}
use Rattle.rv_collide.specs.Stored.{Stored, setting_of}
use Rattle.rv_drive.specs.internal.Kept.{IsKept}
use Rattle.rv_drive.proofs.KeptLemmas.{kept_resume, never_refused}
use Rattle.rv_drive.proofs.ahead.Ahead.resume.Goals as goal

pub look-requires-clause-kept : goal.look-requires-clause-kept
look-requires-clause-kept c =
    subst (λ (s : Stored). IsKept s.entries c.args.self.now.made c.args.self.now.made_at) (sym c.in-Ok.ensures.ok.adds.is_added)
    (kept_resume c.open_pauses.ensures c.args.self.now.collider.entries c.args.self.now.made c.args.self.now.made_at c.args.h c.requires.driver.kept)

pub unreachable-requires : goal.unreachable-requires
unreachable-requires c =
    never_refused (setting_of c.args.self.now.collider) c.args.self.now.collider.entries c.args.h c.in-Err.field-0 c.requires.due c.requires.hart c.in-Err.ensures.err
