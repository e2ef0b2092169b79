use Rattle.std.proofs.Common.{◌≡◌, ◌∙◌, rules, None, length, refl, sym}
use Rattle.key_proof.specs.Judging.{wrong_port}
use Rattle.key_proof.specs.Faults.{ports_of, keys_with}
use Rattle.key_proof.specs.Reading.{rest_at}
use Rattle.key_proof.proofs.Certified.{nothing_behind}
use Rattle.key_proof.proofs.checking.find_keys.Goals as goal

pub returns-in-None-clause-finds : goal.returns-in-None-clause-finds
returns-in-None-clause-finds c =
    let keys = c.read_keys.new.keys in
    let here = c.read_keys.new.cursor in
    let long : length c.read_keys.new.keys ≡ ports_of c.args.subject.now = search rules in
    let fit : None ≡ wrong_port c.args.objects.now c.args.heading.card c.args.subject.now.positions (keys_with c.args.heading c.read_keys.new.keys) = search rules in
    record {
      with = refl;
      told = c.in_ok-read_keys.ensures.told;
      long = long;
      number = here.number;
      lines = rest_at c.args.text.now here;
      none = nothing_behind c.args.objects.now c.args.subject.now c.args.heading c.args.rows keys here.number (rest_at c.args.text.now here) fit (sym c.in-None.is ∙ c.in_ok-fault.ensures);
    }
