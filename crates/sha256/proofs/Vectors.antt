-- Published examples (FIPS 180-2, B.1 and B.2, and the empty message), computed of the definition. Their digests were made by another
-- implementation.
use Rattle.std.proofs.Common.{◌≡◌, [], ◌∷◌, refl}
use Rattle.octets.specs.BigEndian.{be, word_at, words, bytes_of}
use Rattle.sha256.specs.Functions.{ch, maj, big_sigma0, big_sigma1, small_sigma0, small_sigma1}
use Rattle.sha256.specs.Constants.{constants}
use Rattle.sha256.specs.Padding.{pad, block}
use Rattle.sha256.specs.Initial.{initial}
use Rattle.sha256.specs.Hash.{next_word, extended, message_schedule, working_variables, temp1, temp2, round_of, round, rounds_from, rounds, intermediate_hash, compress, processed, sha256}

-- the empty message
empty :
    sha256 ([])
    ≡ 227 ∷ 176 ∷ 196 ∷ 66 ∷ 152 ∷ 252 ∷ 28 ∷ 20 ∷ 154 ∷ 251 ∷ 244 ∷ 200 ∷ 153 ∷ 111 ∷ 185 ∷ 36 ∷ 39 ∷ 174 ∷ 65 ∷ 228 ∷ 100 ∷ 155 ∷ 147 ∷
    76 ∷ 164 ∷ 149 ∷ 153 ∷ 27 ∷ 120 ∷ 82 ∷ 184 ∷ 85 ∷ []
unfolding sha256 processed compress intermediate_hash rounds rounds_from round round_of temp1 temp2 working_variables message_schedule extended next_word pad block words word_at be bytes_of ch maj big_sigma0 big_sigma1 small_sigma0 small_sigma1 constants initial
empty = refl

-- "abc", one block
abc :
    sha256 (97 ∷ 98 ∷ 99 ∷ [])
    ≡ 186 ∷ 120 ∷ 22 ∷ 191 ∷ 143 ∷ 1 ∷ 207 ∷ 234 ∷ 65 ∷ 65 ∷ 64 ∷ 222 ∷ 93 ∷ 174 ∷ 34 ∷ 35 ∷ 176 ∷ 3 ∷ 97 ∷ 163 ∷ 150 ∷ 23 ∷ 122 ∷ 156 ∷
    180 ∷ 16 ∷ 255 ∷ 97 ∷ 242 ∷ 0 ∷ 21 ∷ 173 ∷ []
unfolding sha256 processed compress intermediate_hash rounds rounds_from round round_of temp1 temp2 working_variables message_schedule extended next_word pad block words word_at be bytes_of ch maj big_sigma0 big_sigma1 small_sigma0 small_sigma1 constants initial
abc = refl

-- the 448-bit message, two blocks
two_blocks :
    sha256 (97 ∷ 98 ∷ 99 ∷ 100 ∷ 98 ∷ 99 ∷ 100 ∷ 101 ∷ 99 ∷ 100 ∷ 101 ∷ 102 ∷ 100 ∷ 101 ∷ 102 ∷ 103 ∷ 101 ∷ 102 ∷ 103 ∷ 104 ∷ 102 ∷ 103 ∷
    104 ∷ 105 ∷ 103 ∷ 104 ∷ 105 ∷ 106 ∷ 104 ∷ 105 ∷ 106 ∷ 107 ∷ 105 ∷ 106 ∷ 107 ∷ 108 ∷ 106 ∷ 107 ∷ 108 ∷ 109 ∷ 107 ∷ 108 ∷ 109 ∷ 110 ∷ 108
    ∷ 109 ∷ 110 ∷ 111 ∷ 109 ∷ 110 ∷ 111 ∷ 112 ∷ 110 ∷ 111 ∷ 112 ∷ 113 ∷ [])
    ≡ 36 ∷ 141 ∷ 106 ∷ 97 ∷ 210 ∷ 6 ∷ 56 ∷ 184 ∷ 229 ∷ 192 ∷ 38 ∷ 147 ∷ 12 ∷ 62 ∷ 96 ∷ 57 ∷ 163 ∷ 60 ∷ 228 ∷ 89 ∷ 100 ∷ 255 ∷ 33 ∷ 103 ∷
    246 ∷ 236 ∷ 237 ∷ 212 ∷ 25 ∷ 219 ∷ 6 ∷ 193 ∷ []
unfolding sha256 processed compress intermediate_hash rounds rounds_from round round_of temp1 temp2 working_variables message_schedule extended next_word pad block words word_at be bytes_of ch maj big_sigma0 big_sigma1 small_sigma0 small_sigma1 constants initial
two_blocks = refl
