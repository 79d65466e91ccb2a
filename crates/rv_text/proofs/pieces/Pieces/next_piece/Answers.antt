use Rattle.std.proofs.Common.{sym, ap, ◌∙◌, refl}
use Rattle.std.specs.Option.{option_copied}
use Rattle.rv_text.specs.internal.Pieces.{pieces_left}
use Rattle.rv_text.proofs.LineLemmas.{pieces_of-cut, pieces_of-last}
use Rattle.rv_text.proofs.pieces.Pieces.next_piece.Goals as goal

pub returns-in-Some-clause-first : goal.returns-in-Some-clause-first
returns-in-Some-clause-first c =
    let separator = c.self.inside.separator in
    let pieces = sym c.self.view_is ∙ ap (λ rest. pieces_left separator (option_copied rest)) c.in_ok-text.was ∙ pieces_of-cut separator _ c.in-Some.piece.now c.in-Some.rest.now c.in-Some.ensures.0 c.in-Some.ensures.1 in
    rw pieces refl

pub returns-in-Some-clause-rest : goal.returns-in-Some-clause-rest
returns-in-Some-clause-rest c =
    let separator = c.self.inside.separator in
    let pieces = sym c.self.view_is ∙ ap (λ rest. pieces_left separator (option_copied rest)) c.in_ok-text.was ∙ pieces_of-cut separator _ c.in-Some.piece.now c.in-Some.rest.now c.in-Some.ensures.0 c.in-Some.ensures.1 in
    rw pieces refl

pub returns-in-None-clause-first : goal.returns-in-None-clause-first
returns-in-None-clause-first c =
    let separator = c.self.inside.separator in
    let pieces = sym c.self.view_is ∙ ap (λ rest. pieces_left separator (option_copied rest)) c.in_ok-text.was ∙ pieces_of-last separator c.in_ok-text.text.now c.in-None.ensures in
    rw pieces refl

pub returns-in-None-clause-rest : goal.returns-in-None-clause-rest
returns-in-None-clause-rest c =
    let separator = c.self.inside.separator in
    let pieces = sym c.self.view_is ∙ ap (λ rest. pieces_left separator (option_copied rest)) c.in_ok-text.was ∙ pieces_of-last separator c.in_ok-text.text.now c.in-None.ensures in
    rw pieces refl
