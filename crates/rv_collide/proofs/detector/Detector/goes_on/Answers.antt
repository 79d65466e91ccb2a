use Rattle.rv_collide.proofs.detector.Detector.goes_on.Goals as goal

pub returns-then-is_free : goal.returns-then-is_free
returns-then-is_free g c = λ free. c.is_free.ensures.goes_on free c.args.h
