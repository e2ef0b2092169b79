-- Where the search for a key begins. No clause of the map speaks of it.
use Rattle.std.specs.Prelude.{ℕ, ◌*◌, ◌/◌, ◌%◌, ◌^◌, List, bit_xor, fold}

-- a hash with a word of 64 bits mixed in
abbrev pub stirred : ℕ → ℕ → ℕ
stirred hash word = bit_xor hash word * 0x9E3779B97F4A7C15 % 2 ^ 64

-- a hash with a key's part mixed in: its low word and then its high one
abbrev pub mixed : ℕ → ℕ → ℕ
mixed hash part = stirred (stirred hash (part % 2 ^ 64)) (part / 2 ^ 64)

-- the hash of a key, part by part
abbrev pub hash_of : List ℕ → ℕ
hash_of key = fold mixed 0 key

-- the slot at which the search for a key begins, of so many first ones, by the hash's high half
unfoldable pub first_slot : ℕ → List ℕ → ℕ
first_slot starts key = hash_of key / 2 ^ 32 % starts
