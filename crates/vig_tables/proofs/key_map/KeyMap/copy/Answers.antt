use Rattle.std.proofs.Common.{◌∙◌, ap, sym}
use Rattle.hash_slots.specs.Tags.{Tags}
use Rattle.vig_tables.proofs.key_map.KeyMap.copy.Goals as goal

pub copy_from-requires : goal.copy_from-requires
copy_from-requires c =
    let room = rw (← c.self.view_is) at c.requires in
    ap (λ (t : Tags). t.most) c.in_ok-slots.ensures ∙ sym room
