-- A block with another one behind it, wherever it falls off.
use Rattle.std.specs.Prelude.{List, [], ◌∷◌}
use Rattle.nf_base.specs.Text.{Ending, FallsOff, Forward, Flood, Discard, Block, End, Do, Ask, Make}

-- an end, or what goes on behind it
abbrev pub end_followed : Ending → Block → Block
end_followed FallsOff next = next
end_followed Flood next = End Flood
end_followed Discard next = End Discard
end_followed (Forward port) next = End (Forward port)

-- Nothing stands behind a statement that branches: what follows stands in each of its blocks.
abbrev pub followed : Block → Block → Block
followed (End e) next = end_followed e next
followed (Do op rest) next = Do op (followed rest next)
followed (Ask q hit miss rest) next =
    Ask q (followed hit (followed rest next)) (followed miss (followed rest next)) (End FallsOff)
followed (Make n made taken full rest) next =
    Make n
    (followed made (followed rest next))
    (followed taken (followed rest next))
    (followed full (followed rest next))
    (End FallsOff)

-- the first statement of a block, with something else behind it
abbrev pub first_followed : Block → Block → Block
first_followed (End e) next = end_followed e next
first_followed (Do op rest) next = Do op next
first_followed (Ask q hit miss rest) next =
    Ask q (followed hit next) (followed miss next) (End FallsOff)
first_followed (Make n made taken full rest) next =
    Make n (followed made next) (followed taken next) (followed full next) (End FallsOff)

-- the first statements of some blocks, one behind the other
abbrev pub linked : List Block → Block → Block
linked [] next = next
linked (b ∷ bs) next = first_followed b (linked bs next)
