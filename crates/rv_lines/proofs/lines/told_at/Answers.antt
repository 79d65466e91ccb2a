use Rattle.std.proofs.Common.{◌-◌, ◌<◌, ◌∙◌, ap, arith, get_or, length, sym, leb, leb-true, leb-false, rules}
use Rattle.std.proofs.lemmas.List.Sorted.{IsPartitionPoint-from_clause, IsPartitionedBy-leb}
use Rattle.rv_lines.proofs.KeptLemmas.{told_at-last, told_at-none}
use Rattle.rv_lines.specs.SourceLines.{frames_in}
use Rattle.rv_lines.specs.declared.lines.KeptLine.{KeptLine}
use Rattle.rv_lines.proofs.lines.told_at.Goals as goal

pub returns-then-behind-eq0 : goal.returns-then-behind-eq0
returns-then-behind-eq0 c =
    let parted = IsPartitionedBy-leb (λ (l : KeptLine). l.address) _ c.args.address c.requires in
    let point = IsPartitionPoint-from_clause (λ (l : KeptLine). leb l.address c.args.address) _ _ c.partition_point-behind.ensures.partitioned parted (λ a r q k. search rules) in
    c.none.ensures ∙ sym (told_at-none c.args.lines.now c.args.address (λ k d lt. leb-false _ _ (point.1 k d (omega arith) lt)))

pub returns : goal.returns
returns c =
    let parted = IsPartitionedBy-leb (λ (l : KeptLine). l.address) _ c.args.address c.requires in
    let point = IsPartitionPoint-from_clause (λ (l : KeptLine). leb l.address c.args.address) _ _ c.partition_point-behind.ensures.partitioned parted (λ a r q k. search rules) in
    let is = c.index-lines-behind.is in
    let last : c.partition_point-behind.result - 1 < length c.args.lines.now = omega arith in
    let x = get_or c.args.lines.now (c.partition_point-behind.result - 1) c.index-lines-behind.result in
    c.of_line.ensures ∙ ap frames_in c.deref.ensures.value
    ∙ sym (told_at-last c.args.lines.now (c.partition_point-behind.result - 1) x c.args.address last (ap (get_or c.args.lines.now (c.partition_point-behind.result - 1)) is)
    (leb-true _ _ (point.0 (c.partition_point-behind.result - 1) c.index-lines-behind.result (omega arith) (omega arith)))
    (λ k d at lt. leb-false _ _ (point.1 k d (omega arith) lt)))
