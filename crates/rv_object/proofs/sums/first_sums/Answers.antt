use Rattle.rv_object.proofs.sums.first_sums.Goals as goal

pub returns : goal.returns
returns c =
    rw (c.in_ok-endings_told.ensures, c.in_ok-json-4.ensures, c.in_ok-json-3.ensures, c.in_ok-json-2.ensures, c.in_ok-json.ensures, c.bugs.ensures, c.benign.ensures, c.unwatched.ensures) at c.number_told-5.ensures
