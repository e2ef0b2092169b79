use Rattle.std.proofs.Common.{◌≡◌, ◌∙◌, sym, refl, ap, length, List}
use Rattle.std.specs.Prelude.{Some, None, slice_get}
use Rattle.std.proofs.lemmas.Bool.{ltb-true, ltb-false}
use Rattle.std.proofs.lemmas.Option.{slice_get_read, slice_get_past}
use Rattle.vig_tables.specs.Tagged.{Tagged, keyed_in}
use Rattle.vig_tables.proofs.Kept.{tagged_at, mapped_at, none_mapped}
use Rattle.vig_tables.proofs.Reading.{found_is, not_found}
use Rattle.vig_tables.proofs.chain_tables.ChainTables.lookup_parts.Goals as goal

pub get-requires-in-Some : goal.get-requires-in-Some
get-requires-in-Some c =
    let read = slice_get_read c.deref.result.now (length c.deref.result.now) c.args.map c.in-Some.map.now refl (ltb-true _ _ (sym c.in-Some.ensures.lookup.0)) c.in-Some.ensures.lookup.1 in
    let at : slice_get c.self.inside.maps.items c.args.map ≡ Some c.in-Some.map.now = sym (ap (λ (ms : List Tagged). slice_get ms c.args.map) c.deref.ensures.value) ∙ read in
    tagged_at c.self.inside.labels c.self.inside.maps.items c.args.map c.in-Some.map.now c.self.invariant.tagged at

pub returns-in-Some : goal.returns-in-Some
returns-in-Some c =
    let read = slice_get_read c.deref.result.now (length c.deref.result.now) c.args.map c.in-Some.map.now refl (ltb-true _ _ (sym c.in-Some.ensures.lookup.0)) c.in-Some.ensures.lookup.1 in
    let at : slice_get c.self.inside.maps.items c.args.map ≡ Some c.in-Some.map.now = sym (ap (λ (ms : List Tagged). slice_get ms c.args.map) c.deref.ensures.value) ∙ read in
    rw (← c.self.view_is) (c.get-in-Some.ensures ∙ found_is _ _ _ _ _ c.self.invariant.joined c.args.map (keyed_in c.self.inside.labels c.in-Some.map.now) c.args.key.now (mapped_at c.self.inside.labels c.self.inside.maps.items c.args.map c.in-Some.map.now at))

pub returns-in-None : goal.returns-in-None
returns-in-None c =
    let past = slice_get_past c.deref.result.now c.args.map (ltb-false _ _ (sym c.in-None.ensures.lookup.0)) in
    let at : slice_get c.self.inside.maps.items c.args.map ≡ None = sym (ap (λ (ms : List Tagged). slice_get ms c.args.map) c.deref.ensures.value) ∙ past in
    rw (← c.self.view_is) (not_found _ _ _ _ _ c.self.invariant.joined c.args.map c.args.key.now (none_mapped c.self.inside.labels c.self.inside.maps.items c.args.map at))
