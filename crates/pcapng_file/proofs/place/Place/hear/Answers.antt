use Rattle.std.proofs.Common.{◌≡◌, ◌∙◌, ◌≤◌, ◌-◌, ℕ, List, Option, Some, length, sym, ap, subst, arith}
use Rattle.std.specs.Option.{option_map}
use Rattle.std.specs.Result.{IfOk}
use Rattle.pcapng_file.specs.declared.interface.Interface.{Interface}
use Rattle.pcapng_file.specs.Blocks.{Section, Said, Begins, Describes, Gives, Nothing, opened, is_section, interface_said, enhanced_said, simple_said, body_in, said_in}
use Rattle.pcapng_file.specs.Places.{Place, Hears}
use Rattle.pcapng_file.proofs.Hearing.{front_body, said_section, said_at, said_nothing}
use Rattle.pcapng_file.proofs.place.Place.hear.Goals as goal

pub returns-then-is_pcapng-clause-hears : goal.returns-then-is_pcapng-clause-hears
returns-then-is_pcapng-clause-hears c = λ bytes front.
    let said = said_section c.args.self.now.section c.args.order c.args.total c.args.held.now bytes front (omega (arith, c.requires.sized.long, c.requires.sized.least)) (sym c.is_pcapng.ensures ∙ c.if-is_pcapng.true) in
    subst (λ (o : Option Said). Hears c.args.self.now c.begin.new.self c.args.total o c.args.frame.now.items c.begin.result) (sym said) (c.begin.ensures.hears c.args.frame.now.items)

pub returns-then-is_pcapng-clause-moved : goal.returns-then-is_pcapng-clause-moved
returns-then-is_pcapng-clause-moved c = c.begin.ensures.moved c.args.frame.now.items

pub returns-then-kind-eq-INTERFACE-clause-hears : goal.returns-then-kind-eq-INTERFACE-clause-hears
returns-then-kind-eq-INTERFACE-clause-hears c = λ bytes front.
    let s = c.args.self.now.section in
    let here : Section = record { order = c.self.inside.order; interfaces = c.as_slice.result.now } in
    let same : here ≡ s = ap (λ (xs : List Interface). record { order = c.self.inside.order; interfaces = xs }) c.as_slice.ensures.value ∙ ap (λ (p : Place). p.section) c.self.view_is in
    let body = front_body c.args.order c.args.total c.args.held.now bytes front c.requires.sized.least in
    let said : said_in s c.args.order bytes ≡ option_map Describes c.described-found.result =
    said_at s c.args.order c.args.total 1 c.args.held.now bytes front (omega (arith, c.requires.sized.long, c.requires.sized.least)) (sym c.is_pcapng.ensures ∙ c.if-is_pcapng.false) (sym c.number-kind.ensures ∙ c.if-kind-eq-INTERFACE.true)
    ∙ ap (λ (x : Section). interface_said x (body_in c.args.order bytes)) (sym same) ∙ c.described-found.ensures (body_in c.args.order bytes) body in
    subst (λ (o : Option Said). IfOk c.describe.result (Hears c.args.self.now c.describe.new.self c.args.total o c.args.frame.now.items)) (sym said) (c.describe.ensures.hears c.args.frame.now.items)

pub returns-then-kind-eq-INTERFACE-clause-moved : goal.returns-then-kind-eq-INTERFACE-clause-moved
returns-then-kind-eq-INTERFACE-clause-moved c = c.describe.ensures.moved c.args.frame.now.items

pub returns-then-kind-eq-ENHANCED-clause-hears : goal.returns-then-kind-eq-ENHANCED-clause-hears
returns-then-kind-eq-ENHANCED-clause-hears c = λ bytes front.
    let s = c.args.self.now.section in
    let inside = c.self-then-kind-eq-ENHANCED.inside in
    let here : Section = record { order = inside.order; interfaces = c.as_slice-then-kind-eq-ENHANCED.result.now } in
    let same : here ≡ s = ap (λ (xs : List Interface). record { order = inside.order; interfaces = xs }) c.as_slice-then-kind-eq-ENHANCED.ensures.value ∙ ap (λ (p : Place). p.section) c.self-then-kind-eq-ENHANCED.view_is in
    let body = front_body c.args.order c.args.total c.args.held.now bytes front c.requires.sized.least in
    let said : said_in s c.args.order bytes ≡ option_map Gives c.enhanced-found.result =
    said_at s c.args.order c.args.total 6 c.args.held.now bytes front (omega (arith, c.requires.sized.long, c.requires.sized.least)) (sym c.is_pcapng.ensures ∙ c.if-is_pcapng.false) (sym c.number-kind.ensures ∙ c.if-kind-eq-ENHANCED.true)
    ∙ ap (λ (x : Section). enhanced_said x (body_in c.args.order bytes)) (sym same) ∙ c.enhanced-found.ensures.value (body_in c.args.order bytes) body in
    subst (λ (o : Option Said). IfOk c.give.result (Hears c.args.self.now c.give.new.self c.args.total o c.give.new.frame.items)) (sym said) c.give.ensures.hears

pub returns-then-kind-eq-SIMPLE-clause-hears : goal.returns-then-kind-eq-SIMPLE-clause-hears
returns-then-kind-eq-SIMPLE-clause-hears c = λ bytes front.
    let s = c.args.self.now.section in
    let inside = c.self-then-kind-eq-SIMPLE.inside in
    let give = c.give-then-kind-eq-SIMPLE in
    let here : Section = record { order = inside.order; interfaces = c.as_slice-then-kind-eq-SIMPLE.result.now } in
    let same : here ≡ s = ap (λ (xs : List Interface). record { order = inside.order; interfaces = xs }) c.as_slice-then-kind-eq-SIMPLE.ensures.value ∙ ap (λ (p : Place). p.section) c.self-then-kind-eq-SIMPLE.view_is in
    let body = front_body c.args.order c.args.total c.args.held.now bytes front c.requires.sized.least in
    let said : said_in s c.args.order bytes ≡ option_map Gives c.simple-found.result =
    said_at s c.args.order c.args.total 3 c.args.held.now bytes front (omega (arith, c.requires.sized.long, c.requires.sized.least)) (sym c.is_pcapng.ensures ∙ c.if-is_pcapng.false) (sym c.number-kind.ensures ∙ c.if-kind-eq-SIMPLE.true)
    ∙ ap (λ (x : Section). simple_said x (body_in c.args.order bytes)) (sym same) ∙ c.simple-found.ensures.value (body_in c.args.order bytes) body in
    subst (λ (o : Option Said). IfOk give.result (Hears c.args.self.now give.new.self c.args.total o give.new.frame.items)) (sym said) give.ensures.hears

pub returns-else-kind-eq-SIMPLE-clause-hears : goal.returns-else-kind-eq-SIMPLE-clause-hears
returns-else-kind-eq-SIMPLE-clause-hears c = λ bytes front.
    let s = c.args.self.now.section in
    let said : said_in s c.args.order bytes ≡ Some Nothing =
    said_at s c.args.order c.args.total c.number-kind.result c.args.held.now bytes front (omega (arith, c.requires.sized.long, c.requires.sized.least)) (sym c.is_pcapng.ensures ∙ c.if-is_pcapng.false) (sym c.number-kind.ensures)
    ∙ said_nothing s c.number-kind.result (body_in c.args.order bytes) c.if-kind-eq-INTERFACE.false c.if-kind-eq-ENHANCED.false c.if-kind-eq-SIMPLE.false in
    subst (λ (o : Option Said). Hears c.args.self.now c.pass_over.new.self c.args.total o c.args.frame.now.items c.pass_over.result) (sym said) (c.pass_over.ensures.hears c.args.frame.now.items)

pub returns-else-kind-eq-SIMPLE-clause-moved : goal.returns-else-kind-eq-SIMPLE-clause-moved
returns-else-kind-eq-SIMPLE-clause-moved c = c.pass_over.ensures.moved c.args.frame.now.items
