use Rattle.std.proofs.Common.{◌≡◌, ◌∙◌, ap, sym, subst, ℕ}
use Rattle.hash_slots.specs.Tags.{Tags, AreSound}
use Rattle.hash_slots.proofs.Homes.{same_room}
use Rattle.hash_slots.proofs.tags.Slots.copy_from.Goals as goal

pub copy_from-requires : goal.copy_from-requires
copy_from-requires c =
    let same : c.self.inside.most ≡ c.other.inside.most = ap (λ (t : Tags). t.most) c.self.view_is ∙ c.requires ∙ sym (ap (λ (t : Tags). t.most) c.other.view_is) in
    same_room c.self.inside.cells c.other.inside.cells c.self.inside.mask c.other.inside.mask c.self.inside.held c.other.inside.held c.self.inside.most c.self.invariant (subst (λ (n : ℕ). AreSound c.other.inside.cells c.other.inside.mask c.other.inside.held n) (sym same) c.other.invariant)
