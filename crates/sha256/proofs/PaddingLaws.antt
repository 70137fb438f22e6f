-- The padded message, and its end after the message's whole blocks.
use Rattle.std.proofs.Common.{◌≡◌, ℕ, suc, ◌+◌, ◌-◌, ◌*◌, ◌/◌, ◌%◌, ◌^◌, ◌<◌, ◌≤◌, List, ◌∷◌, ◌++◌, length, take, drop, set, replicate, sym, ap, ◌∙◌, ap₂, append_assoc, arith, length-append, length-drop, length-take, take_at, drop_at}
use lib.ListN.{length-replicate, replicate-append-replicate}
use lib.Seq.{sets, sets-eq, drop-append-le, set_at, take-length, paste}
use Rattle.octets.specs.BigEndian.{be}
use Rattle.octets.proofs.Bytes.{length-be}
use Rattle.sha256.specs.Padding.{pad, pad_tail}

pub length-pad : (m : List ℕ) → length (pad m) ≡ (length m + 72) / 64 * 64
unfolding pad
length-pad m = simp (length-append, length-replicate, length-be) (omega arith)

-- ---- the message's rest, and what follows it

-- x, the byte 0x80, and z zeros
abbrev closed : List ℕ → ℕ → List ℕ
closed x z = x ++ (0x80 ∷ replicate z 0)

length_closed : (x : List ℕ) (z : ℕ) → length (closed x z) ≡ length x + suc z
length_closed x z = simp (length-append, length-replicate)

closed_split : (x : List ℕ) (y z : ℕ) → closed x (y + z) ≡ closed x y ++ replicate z 0
closed_split x y z =
    ap (λ v. x ++ (0x80 ∷ v)) (sym (replicate-append-replicate y z 0)) ∙ sym (append_assoc x (0x80 ∷ replicate y 0) (replicate z 0))

-- the zeros after the byte 0x80
abbrev zeros : List ℕ → ℕ
zeros m = (119 - length m % 64) % 64

-- the padded message, up to its length
pad-front : (m : List ℕ) → take (length (pad m) - 8) (pad m) ≡ closed m (zeros m)
unfolding pad
pad-front m =
    let k : length (closed m (zeros m)) ≡ length (pad m) - 8 = length_closed m (zeros m) ∙ omega (arith, length-pad m) in
    ap (take (length (pad m) - 8)) (sym (append_assoc m (0x80 ∷ replicate (zeros m) 0) (be 8 (length m * 8))))
    ∙ take_at (closed m (zeros m)) (be 8 (length m * 8)) (length (pad m) - 8) k

-- the tail m of a message of n bytes, padded
pub tail_is : (n : ℕ) (m : List ℕ) → pad_tail n m ≡ m ++ (0x80 ∷ (replicate (zeros m) 0 ++ be 8 (n * 8)))
unfolding pad_tail
tail_is n m = ap (λ v. v ++ be 8 (n * 8)) (pad-front m) ∙ append_assoc m (0x80 ∷ replicate (zeros m) 0) (be 8 (n * 8))

pub length_tail : (n : ℕ) (m : List ℕ) → length (pad_tail n m) ≡ length (pad m)
unfolding pad_tail
length_tail n m = simp (length-append, length-take, length-be) (omega (arith, length-pad m))

-- whole blocks f in front
pub pad-after : (f m : List ℕ) (n : ℕ) → length f % 64 ≡ 0 → n ≡ length f + length m → pad (f ++ m) ≡ f ++ pad_tail n m
unfolding pad
pad-after f m n h e =
    let l : length (f ++ m) ≡ n = length-append f m ∙ sym e in
    let z : zeros (f ++ m) ≡ zeros m = ap (λ v. (119 - v) % 64) (ap (λ v. v % 64) l ∙ omega arith) in
    append_assoc f m _ ∙ ap₂ (λ u v. f ++ (m ++ (0x80 ∷ (replicate u 0 ++ be 8 (v * 8))))) z l ∙ ap (λ v. f ++ v) (sym (tail_is n m))

-- its rest from byte at on
tail_rest : (n : ℕ) (m : List ℕ) (at : ℕ) → at ≤ length m → drop at (pad_tail n m) ≡ drop at m ++ (0x80 ∷ (replicate (zeros m) 0 ++ be 8 (n * 8)))
tail_rest n m at h = ap (drop at) (tail_is n m) ∙ drop-append-le at m _ h

-- the rest copied into zeros, and the byte 0x80 after it
closed_copy : (x b : List ℕ) (n : ℕ) → length x ≡ n → n < 128 → b ≡ paste (replicate 128 0) 0 x (length x) → set b n 0x80 ≡ closed x (127 - n)
closed_copy x b n l h e =
    let k : 0 + length x ≡ n = omega arith in
    let s : 128 ≡ n + (128 - n) = omega arith in
    let t : 128 - n ≡ suc (127 - n) = omega arith in
    let zeros : drop {A = ℕ} (0 + length x) (replicate 128 0) ≡ 0 ∷ replicate (127 - n) 0 =
    ap₂ (λ u v. drop {A = ℕ} u (replicate v 0)) k s ∙ ap (drop n) (sym (replicate-append-replicate n (128 - n) 0))
    ∙ drop_at (replicate n 0) (replicate (128 - n) 0) n (length-replicate n 0) ∙ ap (λ u. replicate {A = ℕ} u 0) t in
    ap (λ u. set u n 0x80) (e ∙ ap₂ ◌++◌ (take-length x) zeros) ∙ set_at x 0 (replicate (127 - n) 0) 0x80 n l

-- its front, with y zeros of y + z, and the zeros behind
closed_front : (x : List ℕ) (y z k : ℕ) → k ≡ length x + suc y → take k (closed x (y + z)) ≡ closed x y
closed_front x y z k e = ap (take k) (closed_split x y z) ∙ take_at (closed x y) _ k (length_closed x y ∙ sym e)

closed_back : (x : List ℕ) (y z k : ℕ) → k ≡ length x + suc y → drop k (closed x (y + z)) ≡ replicate z 0
closed_back x y z k e = ap (drop k) (closed_split x y z) ∙ drop_at (closed x y) _ k (length_closed x y ∙ sym e)

-- ---- the last eight bytes

be_8 : (x : ℕ) → x < 2 ^ 32 → be 8 x ≡ 0 ∷ 0 ∷ 0 ∷ 0 ∷ be 4 x
unfolding be
be_8 x h =
    let e7 : x / 2 ^ 56 % 256 ≡ 0 = omega arith in
    let e6 : x / 2 ^ 48 % 256 ≡ 0 = omega arith in
    let e5 : x / 2 ^ 40 % 256 ≡ 0 = omega arith in
    let e4 : x / 2 ^ 32 % 256 ≡ 0 = omega arith in
    rw (e7, e6, e5, e4)

-- four zeros more, and a word
closed_length : (x : List ℕ) (z v : ℕ) → v < 2 ^ 32 → closed x (z + 4) ++ be 4 v ≡ x ++ (0x80 ∷ (replicate z 0 ++ be 8 v))
closed_length x z v h =
    append_assoc x (0x80 ∷ replicate (z + 4) 0) (be 4 v)
    ∙ ap (λ u. x ++ (0x80 ∷ (u ++ be 4 v))) (sym (replicate-append-replicate z 4 0))
    ∙ ap (λ u. x ++ (0x80 ∷ u)) (append_assoc (replicate z 0) (replicate 4 0) (be 4 v) ∙ ap (λ u. replicate z 0 ++ u) (sym (be_8 v h)))

-- ---- the end of the padded message

regroup : (z b : ℕ) → z + 8 + b ≡ z + 4 + (4 + b)
regroup z b = omega arith

-- the buffer: two blocks of zeros, and a word in it
pub buffer_length : (b : List ℕ) → b ≡ replicate 128 0 → length b ≡ 128
buffer_length b e = ap length e ∙ length-replicate {A = ℕ} 128 0

pub in_buffer : (b : List ℕ) (at : ℕ) → length b ≡ 128 → at + 4 ≤ 128 → at + 4 ≤ length b
in_buffer b at l h = omega arith

module _ (m : List ℕ) where
  abbrev whole : ℕ
  whole = length m / 64 * 64

  pub end_blocks : (length m % 64 + 72) / 64 ≡ length (pad m) / 64 - length m / 64
  end_blocks = omega (arith, length-pad m)

  -- the bytes of the end
  abbrev size : ℕ
  size = (length m % 64 + 72) / 64 * 64

  -- the bytes behind the end
  abbrev behind : ℕ
  behind = 128 - (length (pad m) - whole)

  zeros_in_all : (r : ℕ) → r ≡ length m - whole → 127 - r ≡ zeros m + 8 + behind
  zeros_in_all r e =
      let k : r ≡ length m % 64 = omega arith in
      let t : 128 - size ≡ behind = omega (arith, length-pad m) in
      ap (λ v. 127 - v) k ∙ split (length m % 64) (omega arith) ∙ ap (λ v. zeros m + 8 + v) t
    where
      split : (r : ℕ) → r < 64 → 127 - r ≡ (119 - r) % 64 + 8 + (128 - (r + 72) / 64 * 64)
      split r h = omega arith

  -- of a message of n bytes, of which m is left
  module _ (n : ℕ) (h : n * 8 < 2 ^ 32) where
    sized-end : (b c d : List ℕ) (r : ℕ) → r ≡ length m - whole → b ≡ paste (replicate 128 0) 0 (drop whole m) (length (drop whole m))
        → c ≡ set b r 0x80 → d ≡ sets c (size - 4) (be 4 (n * 8)) → d ≡ drop whole (pad_tail n m) ++ replicate behind 0
    sized-end b c d r er eb ec ed =
        let x = drop whole m in
        let l : length x ≡ r = length-drop whole m ∙ sym er in
        let z = zeros m in
        let closes : c ≡ closed x (127 - r) = ec ∙ closed_copy x b r l (omega arith) eb in
        let lc : length c ≡ 128 = ap length closes ∙ length_closed x (127 - r) ∙ omega arith in
        let lb : length (be 4 (n * 8)) ≡ 4 = length-be 4 (n * 8) in
        let f : size - 4 ≡ length x + suc (z + 4) = omega (arith, l) in
        let k : size - 4 + length (be 4 (n * 8)) ≡ length x + suc (z + 8) = omega (arith, l, lb) in
        let i : 127 - r ≡ z + 8 + behind = zeros_in_all r er in
        let g : 127 - r ≡ z + 4 + (4 + behind) = i ∙ regroup z behind in
        ed ∙ sets-eq (be 4 (n * 8)) c (size - 4) (omega (arith, lb, lc))
        ∙ ap₂ (λ u v. (u ++ be 4 (n * 8)) ++ v) (ap (take (size - 4)) (closes ∙ ap (closed x) g) ∙ closed_front x (z + 4) (4 + behind) (size - 4) f)
        (ap (drop (size - 4 + length (be 4 (n * 8)))) (closes ∙ ap (closed x) i) ∙ closed_back x (z + 8) behind _ k)
        ∙ ap (λ u. u ++ replicate behind 0) (closed_length x z (n * 8) h ∙ sym (tail_rest n m whole (omega arith)))

    -- the rest in a buffer of zeros, the byte 0x80 after it, and the length in the last word of the e blocks
    pub end_is : (b c d : List ℕ) (r e : ℕ) → r ≡ length m - whole → e ≡ length (pad m) / 64 - length m / 64
        → b ≡ paste (replicate 128 0) 0 (drop whole m) (length (drop whole m)) → c ≡ set b r 0x80 → d ≡ sets c (e * 64 - 4) (be 4 (n * 8))
        → d ≡ drop whole (pad_tail n m) ++ replicate behind 0
    end_is b c d r e er ee eb ec ed =
        sized-end b c d r er eb ec (ed ∙ ap (λ v. sets c (v * 64 - 4) (be 4 (n * 8))) (ee ∙ sym end_blocks))
