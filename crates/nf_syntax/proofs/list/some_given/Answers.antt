use Rattle.std.proofs.Common.{◌∙◌, ◌++◌, ◌∷◌, [], map, ap, sym, arith}
use Rattle.std.proofs.lemmas.List.{map-append}
use Rattle.nf_tree.specs.View.{given_of}
use Rattle.nf_syntax.specs.Machine.{MoreGivenAt, run}
use Rattle.nf_syntax.proofs.list.some_given.Goals as goal

pub more-preserved : goal.more-preserved
more-preserved c =
    let e = c.in_ok-another.ensures in
    let m = c.in-Some.ensures in
    record {
      shorter = omega (arith, e.0, m.0, c.more.invariant.shorter);
      so_far = λ k. c.more.invariant.so_far k
          ∙ m.1.given (map given_of c.more.all) k
          ∙ e.1 (λ g. MoreGivenAt (map given_of c.more.all ++ g ∷ []) k)
          ∙ ap (λ gs. run (MoreGivenAt gs k) c.in_ok-another.behind.now)
          (sym (ap (map given_of) c.in_ok-push-2.ensures.ok ∙ map-append given_of c.more.all (c.in_ok-another.another ∷ [])));
    }
