use Rattle.std.proofs.Common.{true, false, refl}
use Rattle.formula.specs.Of.{clauses_of}
use Rattle.exports.proofs.Comparing.{told, implied, unimplied}
use Rattle.exports.proofs.compare.compare.Goals as goal

pub returns-then-implies : goal.returns-then-implies
returns-then-implies c =
    let a = c.args.first.now in
    let b = c.args.second.now in
    let f = clauses_of c.in-Ok.formula in
    let g = clauses_of c.in-Ok-formula_from.formula in
    record {
      answer = told a b f g c.in-Ok.ensures c.in-Ok-formula_from.ensures true c.if-implies.ensures;
      means = implied a b f g c.in-Ok.ensures c.in-Ok-formula_from.ensures true c.if-implies.ensures refl;
    }

pub returns-else-implies : goal.returns-else-implies
returns-else-implies c =
    let a = c.args.first.now in
    let b = c.args.second.now in
    let f = clauses_of c.in-Ok.formula in
    let g = clauses_of c.in-Ok-formula_from.formula in
    record {
      answer = told a b f g c.in-Ok.ensures c.in-Ok-formula_from.ensures false c.if-implies.ensures;
      means = unimplied a b f g c.in-Ok.ensures c.in-Ok-formula_from.ensures false c.if-implies.ensures refl;
    }
