use Rattle.std.proofs.Common.{◌≡◌, ◌/◌, ◌%◌, arith}
use Rattle.rv_text.specs.Hexadecimal.{word_digits}
use Rattle.rv_text.proofs.hexadecimal.word_digits.Goals as goal

pub returns : goal.returns
unfolding word_digits
returns c =
    let n = c.args.word in
    let second : n / 16 / 16 / 16 / 16 / 16 / 16 % 16 ≡ n / 16777216 % 16 = omega arith in
    let first : n / 16 / 16 / 16 / 16 / 16 / 16 / 16 % 16 ≡ n / 268435456 = omega arith in
    let third : n / 16 / 16 / 16 / 16 / 16 % 16 ≡ n / 1048576 % 16 = omega arith in
    let fourth : n / 16 / 16 / 16 / 16 % 16 ≡ n / 65536 % 16 = omega arith in
    let fifth : n / 16 / 16 / 16 % 16 ≡ n / 4096 % 16 = omega arith in
    let sixth : n / 16 / 16 % 16 ≡ n / 256 % 16 = omega arith in
    cc
