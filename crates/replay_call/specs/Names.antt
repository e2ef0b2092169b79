-- The names that a replay asks for, in their order: the function's text, the captures in the order of
-- their ports, the journal, and the outputs in the order of their ports.
use Rattle.std.specs.Prelude.{ℕ, List, [], ◌∷◌, ◌++◌, length, map}
use Rattle.std.specs.List.{range_with_len}
use Rattle.nf_files.specs.Causes.{Asked}
use Rattle.command_words.specs.Commands.{Replay}
use Rattle.call_base.specs.Names.{reading, output_name}

-- the text and the captures
abbrev pub inputs_of : Replay → List Asked
inputs_of c = reading c.function ∷ map reading c.captures

-- the names of the journal and of the outputs, in their order
abbrev pub names_of : Replay → List (List ℕ)
names_of c = c.journal ∷ map (output_name c.format c.out) (range_with_len 0 (length c.captures))

-- all names
abbrev pub asked_by : Replay → List Asked
asked_by c = inputs_of c ++ map reading (names_of c)
