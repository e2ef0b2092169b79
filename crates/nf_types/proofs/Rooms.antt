-- What may still come behind a statement with its blocks and behind what follows it.
use Rattle.std.proofs.Common.{◌≡◌, ℕ, ◌+◌, ◌-◌, arith}
use Rattle.nf_tree.specs.Tree.{Question, Creation, Block, Ask, Make}
use Rattle.nf_types.specs.declared.room.Room.{Room}
use Rattle.nf_types.specs.Counts.{lookups, news, question_lookups, behind, behind_question, behind_new}

abbrev room_of : ℕ → ℕ → Room
room_of l n = record { lookups = l; news = n }

same_room : (a b c d : ℕ) → a ≡ b → c ≡ d → room_of a c ≡ room_of b d
same_room a b c d e f = cc

less_three : (a b c d e : ℕ) → ((a - b) - c) - d - e ≡ a - (b + c + d + e)
less_three a b c d e = omega arith

less_two : (a b c d : ℕ) → ((a - b) - c) - d ≡ a - (b + c + d)
less_two a b c d = omega arith

pub behind_ask : (room : Room) (q : Question) (hit miss next : Block) →
    behind (behind (behind (behind_question room q) hit) miss) next ≡ behind room (Ask q hit miss next)
behind_ask room q hit miss next =
    same_room ((((room.lookups - question_lookups q) - lookups hit) - lookups miss) - lookups next)
    (room.lookups - (question_lookups q + lookups hit + lookups miss + lookups next))
    (((room.news - news hit) - news miss) - news next)
    (room.news - (news hit + news miss + news next))
    (less_three room.lookups (question_lookups q) (lookups hit) (lookups miss) (lookups next))
    (less_two room.news (news hit) (news miss) (news next))

less_four : (a b c d e : ℕ) → ((((a - 1) - b) - c) - d) - e ≡ a - (1 + b + c + d + e)
less_four a b c d e = omega arith

pub behind_make : (room : Room) (n : Creation) (made taken full next : Block) →
    behind (behind (behind (behind (behind_new room) made) taken) full) next ≡ behind room (Make n made taken full next)
behind_make room n made taken full next =
    same_room (((((room.lookups - 1) - lookups made) - lookups taken) - lookups full) - lookups next)
    (room.lookups - (1 + lookups made + lookups taken + lookups full + lookups next))
    (((((room.news - 1) - news made) - news taken) - news full) - news next)
    (room.news - (1 + news made + news taken + news full + news next))
    (less_four room.lookups (lookups made) (lookups taken) (lookups full) (lookups next))
    (less_four room.news (news made) (news taken) (news full) (news next))
