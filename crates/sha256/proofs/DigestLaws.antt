-- The digest as bytes, and its length.
use Rattle.std.proofs.Common.{◌≡◌, ℕ, zero, suc, ◌+◌, ◌*◌, ◌/◌, ◌<◌, ◌≤◌, List, [], ◌∷◌, ◌++◌, length, get_or, take, sym, refl, ap, ◌∙◌, ap₂, append_assoc, append-nil, add-one, arith, take_all, take-suc}
use lib.Seq.{sets}
use Rattle.octets.specs.BigEndian.{be, bytes_of}
use Rattle.octets.proofs.Bytes.{length-be, length-bytes_of}
use Rattle.octets.proofs.Stores.{take-sets}
use Rattle.sha256.specs.Padding.{pad}
use Rattle.sha256.specs.Initial.{initial}
use Rattle.sha256.specs.Hash.{intermediate_hash, compress, processed, sha256}

length-processed : (p : List ℕ) (n : ℕ) → length (processed initial p n) ≡ 8
unfolding processed initial compress intermediate_hash
length-processed p zero = refl
length-processed p (suc n) = refl

-- a digest has 32 bytes
pub length-sha256 : (m : List ℕ) → length (sha256 m) ≡ 32
unfolding sha256
length-sha256 m = length-bytes_of _ ∙ ap (λ n. n * 4) (length-processed (pad m) (length (pad m) / 64))

bytes_of_snoc : (xs : List ℕ) (x : ℕ) → bytes_of (xs ++ (x ∷ [])) ≡ bytes_of xs ++ be 4 x
unfolding bytes_of
bytes_of_snoc [] x = append-nil (be 4 x)
bytes_of_snoc (y ∷ ys) x = rw (bytes_of_snoc ys x, append_assoc)

-- a word more
pub put_more : (h out out' : List ℕ) (i : ℕ) → i < length h → i * 4 + 4 ≤ length out → take (i * 4) out ≡ bytes_of (take i h)
    → out' ≡ sets out (i * 4) (be 4 (get_or h i 0)) → take ((i + 1) * 4) out' ≡ bytes_of (take (i + 1) h)
put_more h out out' i hi ho e eo =
    let l : length (be 4 (get_or h i 0)) ≡ 4 = length-be 4 _ in
    let k : (i + 1) * 4 ≡ i * 4 + length (be 4 (get_or h i 0)) = omega arith in
    ap₂ take k eo ∙ take-sets out (be 4 (get_or h i 0)) (i * 4) (omega arith)
    ∙ ap (λ v. v ++ be 4 (get_or h i 0)) e
    ∙ sym (ap (λ n. bytes_of (take n h)) (add-one i) ∙ ap bytes_of (take-suc h i 0 hi) ∙ bytes_of_snoc (take i h) (get_or h i 0))

pub put_all : (h out : List ℕ) (i : ℕ) → i ≡ 8 → length h ≡ 8 → length out ≡ 32 → take (i * 4) out ≡ bytes_of (take i h) → out ≡ bytes_of h
put_all h out i ei lh lo e = sym (take_all 32 out (omega arith)) ∙ rw ei at e ∙ ap bytes_of (take_all 8 h (omega arith))

pub sha256-is : (m h out : List ℕ) → h ≡ processed initial (pad m) (length (pad m) / 64) → out ≡ bytes_of h → out ≡ sha256 m
unfolding sha256
sha256-is m h out eh eo = rw (eo, eh)
