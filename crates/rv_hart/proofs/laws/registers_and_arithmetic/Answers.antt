use Rattle.rv_hart.proofs.ArithmeticLemmas.{registers_law, arithmetic_law}
use Rattle.rv_hart.proofs.ProductLemmas.{product_law}
use Rattle.rv_hart.proofs.laws.registers_and_arithmetic.Goals as goal

pub returns-clause-registers : goal.returns-clause-registers
returns-clause-registers c = registers_law

pub returns-clause-arithmetic : goal.returns-clause-arithmetic
returns-clause-arithmetic c = arithmetic_law

pub returns-clause-products : goal.returns-clause-products
returns-clause-products c = product_law
