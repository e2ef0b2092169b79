-- What the getters of clap's matches read.
use Rattle.std.proofs.Common.{ap, ap₂, sym, refl}
use Rattle.std.specs.Prelude.{◌≡◌, unwrap_or, List, Option, Some, None, option_map, false, is_some}
use Rattle.clap.specs.Words.{Text, all_of, first_of, first_value, matched_of, raw_values, rows_of, Row, has_subcommand, subcommand_name_of, subcommand_rows, subcommand_rows_of}
use Rattle.clap.specs.declared.parser.matches.Found.{Found}
use Rattle.clap.specs.declared.parser.matches.ArgMatches.{ArgMatches}
use Rattle.clap.specs.declared.parser.matches.ArgMatches.TheViews.{out-ArgMatches}
use Rattle.clap.proofs.WalkLemmas.{first_value-rows, raw_values-rows}

pub first_in_rows : (f : Found) (id : Text) → first_value f id ≡ first_of id (rows_of f)
first_in_rows f id = first_value-rows f id

pub all_in_rows : (f : Found) (id : Text) → option_map raw_values (matched_of f id) ≡ all_of id (rows_of f)
all_in_rows f id = raw_values-rows f id

both : {B : Type 0} (o : Option B) (f : B → Text) (g : B → List Row) (name : Text) (rows : List Row) → Some name ≡ option_map f o → Some rows ≡ option_map (λ (p : Text × List Row). p.1) (option_map {U = Text × List Row} (λ b. (f b, g b)) o)
    → option_map {U = Text × List Row} (λ b. (f b, g b)) o ≡ Some (name, rows)
both None f g name rows n r = ap (λ (o : Option Text). option_map {U = Text × List Row} (λ name. (name, rows)) o) (sym n)
both (Some b) f g name rows n r =
    let same_name : f b ≡ name = sym (ap (λ (o : Option Text). unwrap_or o name) n) in
    let same_rows : g b ≡ rows = sym (ap (λ (o : Option (List Row)). unwrap_or o rows) r) in
    ap₂ (λ x y. Some (x, y)) same_name same_rows

-- the subcommand that was met, by its name and what stands beside it
pub met : (m : ArgMatches) (name : Text) (rows : List Row) → Some name ≡ subcommand_name_of m → Some rows ≡ option_map (λ (p : Text × List Row). p.1) (subcommand_rows (out-ArgMatches m).subcommand) → subcommand_rows_of m ≡ Some (name, rows)
met m name rows n r = both (out-ArgMatches m).subcommand _ _ name rows n r

none_of : {B C : Type 0} (o : Option B) (g : B → C) → false ≡ is_some o → option_map g o ≡ None
none_of None g e = refl
none_of (Some b) g e = cc

pub unmet : (m : ArgMatches) → false ≡ has_subcommand m → subcommand_rows_of m ≡ None
unmet m none = none_of (out-ArgMatches m).subcommand _ none
