use Rattle.std.proofs.Common.{◌≡◌, ◌∙◌, Option, length, map, ap, sym, subst}
use Rattle.std.proofs.lemmas.List.{length-map}
use Rattle.nf_base.specs.Functions.{function_of}
use Rattle.nf_base.specs.Text.{Block}
use Rattle.nf_base.specs.View.{block_of}
use Rattle.path_walk.specs.Alive.{alive}
use Rattle.path_walk.specs.Feasible.{handler_paths, branches_along}
use Rattle.path_walk.specs.Listed.{block_branches}
use Rattle.path_walk.specs.Order.{head_seen}
use Rattle.access_keys.specs.Together.{new_seen}
use Rattle.access_keys.specs.declared.places.Places.{Places}
use Rattle.access_keys.specs.Reached.{AreMarked}
use Rattle.access_keys.proofs.Reach.{length-alive}
use Rattle.access_keys.proofs.OnPath.{told_ok}
use Rattle.access_keys.proofs.function.put_text.Goals as goal

pub places_marked-requires : goal.places_marked-requires
places_marked-requires c =
    let block = block_of c.args.block.now in
    ap length (c.as_slice.ensures.value ∙ c.in_ok-marks.ensures) ∙ sym (length-alive block (block_branches block)) ∙ ap length (sym c.in_ok-statements.ensures)
    ∙ length-map c.in_ok-statements.statements.items head_seen ∙ ap length (sym c.as_slice-lines.ensures.value)

pub returns : goal.returns
returns c =
    let f = function_of c.args.func.now in
    let block = block_of c.args.block.now in
    let heads = map head_seen c.as_slice-lines.result.now in
    told_ok c.put_statements.result f c.args.door block c.of-here.result c.args.sites.now.items c.put_statements.new.sites.items heads c.as_slice.result.now
    c.requires.here c.of-here.ensures.door (c.of-here.ensures.decls ∙ c.as_slice-2.ensures.value) (ap (map new_seen) c.of-here.ensures.all ∙ c.requires.all)
    (ap (map head_seen) c.as_slice-lines.ensures.value ∙ c.in_ok-statements.ensures)
    (c.as_slice.ensures.value ∙ c.in_ok-marks.ensures ∙ sym (ap (λ (b : Option Block). alive block (map branches_along (handler_paths b))) c.requires.here))
    (subst (λ (p : Places). AreMarked c.as_slice.result.now heads p) (sym c.of-here.ensures.places) c.in_ok-places.ensures)
    c.put_statements.ensures
