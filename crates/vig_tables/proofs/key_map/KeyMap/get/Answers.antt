use Rattle.std.proofs.Common.{◌≡◌, ◌∙◌, ap, refl, arith, false}
use Rattle.std.specs.Prelude.{IsTrue, ◌↔◌}
use Rattle.hash_slots.specs.Tags.{pair_of}
use Rattle.vig_map.specs.Bindings.{value_of}
use Rattle.vig_tables.proofs.Tagging.{looked_up_by}
use Rattle.vig_tables.specs.Tagged.{Tagged, keys_in, keyed_in}
use Rattle.vig_tables.proofs.key_map.KeyMap.get.Goals as goal

pub find-requires : goal.find-requires
find-requires c =
    let k = rw (← c.self.view_is) at c.requires in
    λ t i held. k.within (pair_of t i) held

not_so : IsTrue false → ⊥
not_so t = absurd (grind (arith, t))

pub returns : goal.returns
returns c =
    let k = rw (← c.self.view_is) at c.requires in
    looked_up_by (λ i b. IsTrue b ↔ (keys_in c.self.inside.decl c.args.labels.now i ≡ c.args.key.now)) (keys_in c.self.inside.decl c.args.labels.now) c.self.inside.slots c.tag_of.result c.args.key.now c.find.result k.tagged c.tag_of.ensures (λ i post. post.0 refl) (λ i post e. not_so (post.1 e)) c.find.ensures.found c.find.ensures.absent
    ∙ ap (λ (m : Tagged). value_of (keyed_in c.args.labels.now m).map.pairs c.args.key.now) c.self.view_is
