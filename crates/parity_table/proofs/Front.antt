-- Only a table's front matters to the reader: as many words as the longest table of that depth has, and one more.
use mathlib.Core.Path.{◌≡◌, sym, ap, subst}
use mathlib.Core.List.{List, ◌++◌}
use Prim.Native.Nat.{ℕ, suc, ◌≤◌, ◌<◌}
use native.Mathlib.Omega.{arith}
use lib.ListN.{length, take, length-append}
use lib.Seq.{length-take-le, take_all, take-take}
use lib.Dec.{leb}
use borrow.Author.Tests.{leb-true, leb-false}
use Rattle.octets.proofs.Choice.{by_test}
use Rattle.std.specs.Prelude.{Ok, Err}
use Rattle.parity_table.specs.declared.TableError.TheVariants as error
use Rattle.parity_table.specs.Table.{Begins, FirstWrong}
use Rattle.parity_table.specs.Reader.{Answer, Whole, read_of}
use Rattle.parity_table.specs.Right.{Right}
use Rattle.parity_table.specs.Longest.{longest}
use Rattle.parity_table.proofs.Longest.{none_longer}
use Rattle.parity_table.proofs.Accepts.{read_right, right_unique, accepted-formed}

-- an accepted list has no more words than the longest table
pub accepted-short : (d : ℕ) (ws : List ℕ) → read_of d ws ≡ Whole → length ws ≤ longest d
accepted-short d ws r = none_longer d ws (accepted-formed d ws r).1

-- no table begins with more words than the longest has
begins_short : (d : ℕ) (ws : List ℕ) → Begins d ws → length ws ≤ longest d
begins_short d ws b = omega (arith, none_longer d (ws ++ b.more) b.formed, length-append ws b.more)

-- ---- a list with w words or more, w being more than the longest table has

module _ (d w : ℕ) (ws : List ℕ) (past : longest d < w) (long : w ≤ length ws) where
  front_length : length (take w ws) ≡ w
  front_length = length-take-le w ws long

  -- its front's first wrong word is one of these w
  place_inside : (i : ℕ) → FirstWrong d (take w ws) i → i < w
  place_inside i f =
      by_test (leb w i)
      (λ t.
      let h : w ≤ i = leb-true w i t in
      absurd (omega (arith, begins_short d (take w (take w ws)) (f.before w h), length-take-le w (take w ws) (omega (arith, front_length)))))
      (λ t. leb-false w i t)

  -- .. and the list's
  front-wrong : (i : ℕ) → FirstWrong d (take w ws) i → FirstWrong d ws i
  front-wrong i f =
      let h = place_inside i f in
      record {
        within = omega arith;
        before = λ n g. subst (Begins d) (take-take n w ws (omega arith)) (f.before n g);
        wrong = λ g b. f.wrong (omega (arith, front_length)) (subst (Begins d) (sym (take-take (suc i) w ws h)) b);
        refused = λ g. absurd (omega (arith, none_longer d ws g));
      }

  -- what is right of its front is right of it
  front-right : (a : Answer) → Right d (take w ws) a → Right d ws a
  front-right (Err error.Depth) r = r
  front-right (Err error.Length) r = r
  front-right (Err (error.Wrong i)) r = (r.0, front-wrong i r.1)
  front-right (Ok _) r = absurd (omega (arith, none_longer d (take w ws) r.1, front_length))

  front_same : read_of d (take w ws) ≡ read_of d ws
  front_same = right_unique d ws (read_of d (take w ws)) (read_of d ws) (front-right (read_of d (take w ws)) (read_right d (take w ws))) (read_right d ws)

-- the reader answers of any list what it answers of its front
pub read-front : (d w : ℕ) (ws : List ℕ) → longest d < w → read_of d (take w ws) ≡ read_of d ws
read-front d w ws h =
    by_test (leb w (length ws)) (λ t. front_same d w ws h (leb-true w (length ws) t))
    (λ t. ap (read_of d) (take_all w ws (omega (arith, leb-false w (length ws) t))))
