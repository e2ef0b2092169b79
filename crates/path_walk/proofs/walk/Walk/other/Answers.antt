use Rattle.path_walk.proofs.Walking.{went}
use Rattle.path_walk.proofs.walk.Walk.other.Goals as goal
use Rattle.std.proofs.Common.{◌++◌, ◌∷◌, [], refl, ap, ◌∙◌}

pub returns : goal.returns
returns c =
    went c.args.self.now (record { at = c.args.at; known = c.in_ok-known.known; branches = c.push.new.self }) c.args.branch c.args.at refl c.in_ok-known.ensures
    (c.in_ok-push.ensures.items ∙ ap (λ xs. xs ++ c.args.branch ∷ []) (c.in_ok-branches.ensures.items ∙ c.as_slice.ensures.value))
