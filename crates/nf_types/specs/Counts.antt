-- How many look-ups a block's text has, and how many more may come.
use Rattle.std.specs.Prelude.{ℕ, ◌+◌, ◌-◌}
use Rattle.nf_tree.specs.Tree.{Question, Get, Find, Test, Block, End, Do, Ask, Make}
use Rattle.nf_types.specs.declared.room.Room.{Room}

-- how many `new`
abbrev pub news : Block → ℕ
news (End e) = 0
news (Do op next) = news next
news (Ask q hit miss next) = news hit + news miss + news next
news (Make n made taken full next) = 1 + news made + news taken + news full + news next

-- whether a question looks keys or an index up: 1 or 0
abbrev pub question_lookups : Question → ℕ
question_lookups (Get at x c m key close) = 1
question_lookups (Find at x c i gs) = 1
question_lookups (Test l comparison r) = 0

-- how many `get`, `find` and `new`
abbrev pub lookups : Block → ℕ
lookups (End e) = 0
lookups (Do op next) = lookups next
lookups (Ask q hit miss next) = question_lookups q + lookups hit + lookups miss + lookups next
lookups (Make n made taken full next) =
    1 + lookups made + lookups taken + lookups full + lookups next

-- what may come in a handler: 32 of `get`, `find` and `new` together, 16 `new`
abbrev pub whole_room : Room
whole_room = record { lookups = 32; news = 16 }

-- what may still come behind a block
abbrev pub behind : Room → Block → Room
behind room b = record { lookups = room.lookups - lookups b; news = room.news - news b }

-- what may still come behind a question, and behind a `new`
abbrev pub behind_question : Room → Question → Room
behind_question room q = record { lookups = room.lookups - question_lookups q; news = room.news }

abbrev pub behind_new : Room → Room
behind_new room = record { lookups = room.lookups - 1; news = room.news - 1 }

-- the same, behind their blocks too
abbrev pub behind_asked : Room → Question → (hit miss : Block) → Room
behind_asked room q hit miss = behind (behind (behind_question room q) hit) miss

abbrev pub behind_made : Room → (made taken full : Block) → Room
behind_made room made taken full = behind (behind (behind (behind_new room) made) taken) full
