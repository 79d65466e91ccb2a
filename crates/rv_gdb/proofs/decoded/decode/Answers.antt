-- A byte is taken off the digits that are left, and put behind those that are known.
use Rattle.std.proofs.Common.{◌≡◌, Some, sym}
use Rattle.rv_gdb.proofs.DecodedLemmas.{fits_more, one_more}
use Rattle.rv_gdb.specs.Fields.{byte_of}
use Rattle.rv_gdb.proofs.decoded.decode.Goals as goal

pub loop-left-preserved : goal.loop-left-preserved
loop-left-preserved c =
    let is : byte_of c.loop-left.left.now ≡ Some c.in_ok-byte.byte = sym c.in_ok-byte.ensures in
    record {
      same = one_more _ _ _ _ _ is c.push.ensures c.loop-left.invariant.same;
      fits = fits_more _ _ _ _ is c.push.ensures c.loop-left.invariant.fits;
    }
