use Rattle.std.proofs.Common.{◌∙◌, Bool, refl, sym}
use Rattle.std.specs.List.{range_with_len}
use Rattle.nf_sites.specs.Known.{same_object}
use Rattle.access_keys.specs.declared.site.Site.{Site}
use Rattle.shard_rules.specs.Sites.{object_sites}
use Rattle.shard_rules.proofs.Alike.{none_left, first_left, by_first_of}
use Rattle.shard_rules.proofs.rule.all_know_same.Goals as goal

pub returns-in-None : goal.returns-in-None
returns-in-None c =
    let on : Site → Bool = λ s. same_object s.object c.args.object in
    rw (none_left on c.args.sites.now (sym c.in-None.ensures)) refl

pub returns-in-Some : goal.returns-in-Some
returns-in-Some c =
    let on : Site → Bool = λ s. same_object s.object c.args.object in
    let more = first_left on c.args.sites.now c.in-Some.first.now (sym c.in-Some.ensures) in
    c.all_know_as.ensures
    ∙ by_first_of (range_with_len 0 c.args.count) c.in-Some.first.now more.0 (object_sites c.args.object c.args.sites.now) more.1
