use Rattle.std.proofs.Common.{◌≡◌, ◌∙◌, ap, length, map}
use Rattle.rv_hart.specs.State.{start as first_state}
use Rattle.rv_stuck.specs.Acts.{conduct_in}
use Rattle.rv_explain.proofs.WriterLemmas.{first_reads, last_reads, lent_back}
use Rattle.rv_explain.specs.StuckReads.{reads_of}
use Rattle.rv_explain.specs.internal.Writers.{with_writer}
use Rattle.rv_explain.proofs.stuck.block_of.Goals as goal

pub find_writers-requires : goal.find_writers-requires
find_writers-requires c =
    rw c.deref_mut.ensures.value (first_reads c.in_ok-again.again.state c.args.entries.now c.args.machine.now.state.memory (map conduct_in c.deref.result.now) c.in_ok-reads.reads.items c.in_ok-reads.ensures)

pub returns-clause-harts : goal.returns-clause-harts
returns-clause-harts c =
    let start = first_state c.args.symbols.now.image.segments c.args.symbols.now.image.entry c.args.harts in
    let memory = c.args.machine.now.state.memory in
    let written : c.find_writers.new.reads ≡ map (map (with_writer start c.args.entries.now (length c.args.entries.now))) c.in_ok-reads.reads.items =
    c.in_ok-find_writers.ensures ∙ ap (λ s. map (map (with_writer s c.args.entries.now (length c.args.entries.now))) c.deref_mut.result.now) (rw c.image.ensures at c.in_ok-again.ensures.state) ∙ ap (map (map (with_writer start c.args.entries.now (length c.args.entries.now)))) c.deref_mut.ensures.value in
    c.in_ok-harts_of.ensures.shown (reads_of start c.args.entries.now memory)
    (c.deref-2.ensures.value ∙ lent_back (map (with_writer start c.args.entries.now (length c.args.entries.now))) c.in_ok-reads.reads.items c.find_writers.new.reads c.in_ok-reads.reads.len c.in_ok-reads.reads.ok.0 written
    ∙ last_reads start c.args.entries.now memory c.args.end.now.harts.items (map conduct_in c.deref.result.now) c.in_ok-reads.reads.items c.find_writers.new.reads
    (ap (map conduct_in) c.deref.ensures.value ∙ c.in_ok-acts_of.ensures) c.in_ok-reads.ensures written)
