-- `put_line` meets its contract: the number, then four characters.
use native.Mathlib.Omega.{arith}
use Rattle.listing.proofs.TextLaws.{line-length, line-stored}
use Rattle.listing.proofs.text.put_line.Goals as goal

pub put_number-p-requires : goal.put_number-p-requires
put_number-p-requires c = let a = c.args in omega (arith, line-length a.number a.symbol.now)

pub bounds-text-p : goal.bounds-text-p
bounds-text-p c = let a = c.args in omega (arith, line-length a.number a.symbol.now)

pub overflow_add-text : goal.overflow_add-text
overflow_add-text c = let a = c.args in omega (arith, line-length a.number a.symbol.now)

pub bounds-text-p-2 : goal.bounds-text-p-2
bounds-text-p-2 c = let a = c.args in omega (arith, line-length a.number a.symbol.now)

pub overflow_add-text-2 : goal.overflow_add-text-2
overflow_add-text-2 c = let a = c.args in omega (arith, line-length a.number a.symbol.now)

pub bounds-text-p-3 : goal.bounds-text-p-3
bounds-text-p-3 c = let a = c.args in omega (arith, line-length a.number a.symbol.now)

pub overflow_add-text-3 : goal.overflow_add-text-3
overflow_add-text-3 c = let a = c.args in omega (arith, line-length a.number a.symbol.now)

pub bounds-text-p-4 : goal.bounds-text-p-4
bounds-text-p-4 c = let a = c.args in omega (arith, line-length a.number a.symbol.now)

pub overflow_add-result : goal.overflow_add-result
overflow_add-result c = let a = c.args in omega (arith, line-length a.number a.symbol.now)

pub returns : goal.returns
returns c =
    let a = c.args in
    let p = c.put_number-p in (
      omega (arith, line-length a.number a.symbol.now),
      line-stored a.number a.symbol.now a.text.now p.new.text a.at p.result c.high.result c.low.result p.ensures.1
          p.ensures.0 c.high.ensures c.low.ensures,
    )
