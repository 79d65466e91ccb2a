use Rattle.std.proofs.Common.{take}
use Rattle.std.specs.List.{filter}
use Rattle.std.specs.Prelude.{IsTrue}
use Rattle.std.proofs.lemmas.List.Elements.{filter_passes, All-same}
use Rattle.rv_elf.specs.Loaded.{is_loaded}
use Rattle.rv_elf.proofs.segments.loaded.Goals as goal

pub returns-clause-each : goal.returns-clause-each
returns-clause-each c =
    let headers = take c.loop-header.header-index c.args.headers.now in
    All-same (λ h. IsTrue (is_loaded h)) c.loop-header.loaded (filter is_loaded headers) c.loop-header.invariant.loaded (filter_passes is_loaded headers)
