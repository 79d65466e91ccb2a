use Rattle.std.proofs.Common.{◌≡◌, ◌+◌, ◌-◌, ◌*◌, ap, take, drop, arith, ◌∙◌}
use Rattle.rv_memory.proofs.paged.pages.page_at.Goals as goal

pub returns : goal.returns
returns c =
    let count : (4096 * c.args.place + 4096) - 4096 * c.args.place ≡ 4096 = omega arith in
    c.in-Ok.ensures.1.same ∙ ap (λ n. take n (drop (4096 * c.args.place) c.args.bytes.now)) count
