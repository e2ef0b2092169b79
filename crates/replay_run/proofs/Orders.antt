-- Capture order keeps the packets of each port in their order.
use Rattle.std.proofs.Common.{◌≡◌, ◌≢◌, ℕ, ◌+◌, ◌<◌, ◌≤◌, ◌==◌, max, Bool, true, false, cond, List, [], ◌∷◌, ◌++◌, filter, Option, Some, None, inl, inr, refl, sym, ap, ◌∙◌, subst, append-nil, arith}
use Rattle.std.specs.List.{AllByRecursion}
use Rattle.std.specs.Option.{option_map}
use Rattle.std.proofs.lemmas.Bool.{cases_eq}
use Rattle.std.proofs.lemmas.List.Elements.{filter-append}
use Rattle.nf_base.specs.Orders.{comes_before}
use Rattle.nf_base.specs.Doors.{six_at}
use Rattle.nf_files.specs.Told.{Told}
use Rattle.pcapng_file.specs.Heard.{Heard, Stream as Contents}
use Rattle.packet_feed.specs.Contents.{contents_of}
use Rattle.packet_feed.specs.Arrivals.{Arrival, arrival_of, arrivals_from, arrivals_in}
use Rattle.packet_feed.specs.Order.{put_in, in_order}
use Rattle.packet_feed.specs.Told.{both, gathered, packets_in}
use Rattle.packet_feed.specs.Ports.{is_of}
use Rattle.packet_feed.proofs.Ordering.{IsEarly, IsBehind}
use Rattle.packet_feed.proofs.Streaming.{came_at, came_in, came_as, all_behind}
use Rattle.replay_run.specs.Laws.{FirstAreOfPorts, OthersMayBeFirst, NoneIsPassedOver}
use Rattle.replay_run.proofs.Ports.{keep_head, drop_head}

-- ---- one packet put in

-- of its own port it comes before these
abbrev IsBeforeOwn : Arrival → Arrival → Type 0
IsBeforeOwn a b = b.packet.id.port ≡ a.packet.id.port → IsBehind a b

put_own : (port : ℕ) (a : Arrival) (bs : List Arrival) → a.packet.id.port ≡ port → AllByRecursion (IsBeforeOwn a) bs → filter (is_of port) (put_in a bs) ≡ a ∷ filter (is_of port) bs
put_own port a [] same h = keep_head port a [] same
put_own port a (b ∷ bs) same h = chosen (comes_before a.packet b.packet) refl (put_own port a bs same h.1)
  where
    chosen : (t : Bool) → comes_before a.packet b.packet ≡ t → filter (is_of port) (put_in a bs) ≡ a ∷ filter (is_of port) bs → filter (is_of port) (cond t (a ∷ (b ∷ bs)) (b ∷ put_in a bs)) ≡ a ∷ filter (is_of port) (b ∷ bs)
    chosen true e rest = keep_head port a (b ∷ bs) same
    chosen false e rest =
        let other : b.packet.id.port ≢ port = λ is. never (sym e ∙ h.0 (is ∙ sym same)) in
        drop_head port b (put_in a bs) other ∙ rest ∙ ap (λ (t : List Arrival). a ∷ t) (sym (drop_head port b bs other))
      where
        never : false ≡ true → ⊥
        never q = cc

put_other : (port : ℕ) (a : Arrival) (bs : List Arrival) → a.packet.id.port ≢ port → filter (is_of port) (put_in a bs) ≡ filter (is_of port) bs
put_other port a [] other = drop_head port a [] other
put_other port a (b ∷ bs) other = chosen (comes_before a.packet b.packet) (put_other port a bs other)
  where
    chosen : (t : Bool) → filter (is_of port) (put_in a bs) ≡ filter (is_of port) bs → filter (is_of port) (cond t (a ∷ (b ∷ bs)) (b ∷ put_in a bs)) ≡ filter (is_of port) (b ∷ bs)
    chosen true rest = drop_head port a (b ∷ bs) other
    chosen false rest = ap (λ (t : List Arrival). cond (b.packet.id.port == port) (b ∷ t) t) rest

-- ---- all packets in order

all_put : (P : Arrival → Type 0) (a : Arrival) (bs : List Arrival) → P a → AllByRecursion P bs → AllByRecursion P (put_in a bs)
all_put P a [] p h = (p, tt)
all_put P a (b ∷ bs) p h = chosen (comes_before a.packet b.packet) (all_put P a bs p h.1)
  where
    chosen : (t : Bool) → AllByRecursion P (put_in a bs) → AllByRecursion P (cond t (a ∷ (b ∷ bs)) (b ∷ put_in a bs))
    chosen true rest = (p, h)
    chosen false rest = (h.0, rest)

all_order : (P : Arrival → Type 0) (xs : List Arrival) → AllByRecursion P xs → AllByRecursion P (in_order xs)
all_order P [] h = tt
all_order P (x ∷ xs) h = all_put P x (in_order xs) h.0 (all_order P xs h.1)

-- each comes before those of its port behind it
abbrev AreOwnOrdered : List Arrival → Type 0
AreOwnOrdered [] = Unit {0}
AreOwnOrdered (x ∷ xs) = AllByRecursion (IsBeforeOwn x) xs × AreOwnOrdered xs

order_keeps : (port : ℕ) (xs : List Arrival) → AreOwnOrdered xs → filter (is_of port) (in_order xs) ≡ filter (is_of port) xs
order_keeps port [] h = refl
order_keeps port (x ∷ xs) h = elim (cases_eq x.packet.id.port port) [
  | inl same ↦
      put_own port x (in_order xs) same (all_order (IsBeforeOwn x) xs h.0)
      ∙ ap (λ (t : List Arrival). x ∷ t) (order_keeps port xs h.1) ∙ sym (keep_head port x xs same)
  | inr other ↦ put_other port x (in_order xs) other ∙ order_keeps port xs h.1 ∙ sym (drop_head port x xs other)
]

-- ---- the packets of captures

weaker : (P Q : Arrival → Type 0) (xs : List Arrival) → ((x : Arrival) → P x → Q x) → AllByRecursion P xs → AllByRecursion Q xs
weaker P Q [] w h = tt
weaker P Q (x ∷ xs) w h = (w x h.0, weaker P Q xs w h.1)

all_both : (P : Arrival → Type 0) (xs ys : List Arrival) → AllByRecursion P xs → AllByRecursion P ys → AllByRecursion P (xs ++ ys)
all_both P [] ys h k = k
all_both P (x ∷ xs) ys h k = (h.0, all_both P xs ys h.1 k)

-- packets of one port, and behind them those of others
own_behind : (q : ℕ) (xs ys : List Arrival) → AreOwnOrdered xs → AreOwnOrdered ys → AllByRecursion (λ (a : Arrival). a.packet.id.port ≡ q) xs → AllByRecursion (λ (a : Arrival). q < a.packet.id.port) ys → AreOwnOrdered (xs ++ ys)
own_behind q [] ys h k mine others = k
own_behind q (x ∷ xs) ys h k mine others = (
  all_both (IsBeforeOwn x) xs ys h.0 (weaker (λ (a : Arrival). q < a.packet.id.port) (IsBeforeOwn x) ys (λ y lt same. absurd (omega (arith, lt, same, mine.0))) others),
  own_behind q xs ys h.1 k mine.1 others,
)

own_from : (six : Bool) (port seq latest : ℕ) (cs : List Heard) → AreOwnOrdered (arrivals_from six port seq latest cs)
own_from six port seq latest [] = tt
own_from six port seq latest (c ∷ cs) =
    let time = max latest c.time in
    let a = arrival_of six port seq time c.is_ethernet c.original c.frame in
    let t = came_at six port seq time c.is_ethernet c.original c.frame in
    let p = came_in six port seq time c.is_ethernet c.original c.frame in
    let n = came_as six port seq time c.is_ethernet c.original c.frame in
    let early : IsEarly a.packet time port (seq + 1) = record { time_le = omega (arith, t); port_le = λ le. omega (arith, p); seq_lt = λ le lo. omega (arith, n) } in (
      weaker (IsBehind a) (IsBeforeOwn a) (arrivals_from six port (seq + 1) time cs) (λ x behind same. behind) (all_behind a six port (seq + 1) time cs early),
      own_from six port (seq + 1) time cs,
    )

ports_from : (six : Bool) (port seq latest : ℕ) (cs : List Heard) → AllByRecursion (λ (a : Arrival). a.packet.id.port ≡ port) (arrivals_from six port seq latest cs)
ports_from six port seq latest [] = tt
ports_from six port seq latest (c ∷ cs) =
    let time = max latest c.time in
    (came_in six port seq time c.is_ethernet c.original c.frame, ports_from six port (seq + 1) time cs)

-- what one capture gives
record IsOwn (port : ℕ) (xs : List Arrival) : Type 0 where
  pub ordered : AreOwnOrdered xs
  pub ports : AllByRecursion (λ (a : Arrival). a.packet.id.port ≡ port) xs

abbrev IsOwnIf : ℕ → Option (List Arrival) → Type 0
IsOwnIf port None = Unit {0}
IsOwnIf port (Some xs) = IsOwn port xs

own_of : (six : Bool) (port : ℕ) (c : Option Contents) → IsOwnIf port (option_map (arrivals_in six port) c)
own_of six port None = tt
own_of six port (Some c) = record { ordered = own_from six port 0 0 c.heard; ports = ports_from six port 0 0 c.heard }

own_in : (six : Bool) (port : ℕ) (bytes : Option (List ℕ)) → IsOwnIf port (packets_in six port bytes)
own_in six port None = tt
own_in six port (Some bytes) = own_of six port (contents_of bytes)

-- what captures from a port on give
record AreFromPort (port : ℕ) (xs : List Arrival) : Type 0 where
  pub ordered : AreOwnOrdered xs
  pub ports : AllByRecursion (λ (a : Arrival). port ≤ a.packet.id.port) xs

abbrev AreFromPortIf : ℕ → Option (List Arrival) → Type 0
AreFromPortIf port None = Unit {0}
AreFromPortIf port (Some xs) = AreFromPort port xs

both_from : (port : ℕ) (u v : Option (List Arrival)) → IsOwnIf port u → AreFromPortIf (port + 1) v → AreFromPortIf port (both u v)
both_from port None v h k = tt
both_from port (Some u) None h k = tt
both_from port (Some u) (Some v) h k = record {
  ordered = own_behind port u v h.ordered k.ordered h.ports (weaker (λ (a : Arrival). port + 1 ≤ a.packet.id.port) (λ (a : Arrival). port < a.packet.id.port) v (λ x le. omega (arith, le)) k.ports);
  ports = all_both (λ (a : Arrival). port ≤ a.packet.id.port) u v
      (weaker (λ (a : Arrival). a.packet.id.port ≡ port) (λ (a : Arrival). port ≤ a.packet.id.port) u (λ x same. omega (arith, same)) h.ports)
      (weaker (λ (a : Arrival). port + 1 ≤ a.packet.id.port) (λ (a : Arrival). port ≤ a.packet.id.port) v (λ x le. omega (arith, le)) k.ports);
}

gathered_from : (six : List Bool) (told : Told) (port : ℕ) (files : List ℕ) → AreFromPortIf port (gathered (λ (p : ℕ) (file : ℕ). packets_in (six_at six p) p (told.rest file)) port files)
gathered_from six told port [] = record { ordered = tt; ports = tt }
gathered_from six told port (file ∷ files) =
    both_from port (packets_in (six_at six port) port (told.rest file)) (gathered (λ (p : ℕ) (file : ℕ). packets_in (six_at six p) p (told.rest file)) (port + 1) files) (own_in (six_at six port) port (told.rest file)) (gathered_from six told (port + 1) files)

-- ---- the laws

pub first_are : FirstAreOfPorts
first_are six files told all given is first = λ port.
    let from : AreFromPort 0 all = subst (AreFromPortIf 0) is (gathered_from six told 0 files) in (
      filter (is_of port) first.0,
      sym (order_keeps port all from.ordered) ∙ ap (filter (is_of port)) first.1 ∙ filter-append (is_of port) given first.0,
    )

pub others_first : OthersMayBeFirst
others_first a b other = λ port. elim (cases_eq b.packet.id.port port) [
  | inl mine ↦
      let ne : a.packet.id.port ≢ port = λ same. other (same ∙ sym mine) in
      ([], drop_head port a (b ∷ []) ne ∙ sym (append-nil (filter (is_of port) (b ∷ []))))
  | inr there ↦
      let none : filter (is_of port) (b ∷ []) ≡ [] = drop_head port b [] there in
      (filter (is_of port) (a ∷ b ∷ []), ap (λ (t : List Arrival). t ++ filter (is_of port) (a ∷ b ∷ [])) (sym none))
]

pub none_passed : NoneIsPassedOver
none_passed a b same first =
    let port = b.packet.id.port in
    let own = first port in
    let whole : a ∷ filter (is_of port) (b ∷ []) ≡ b ∷ (filter (is_of port) [] ++ own.0) =
    sym (keep_head port a (b ∷ []) same) ∙ own.1 ∙ ap (λ (t : List Arrival). t ++ own.0) (keep_head port b [] refl) in
    cc
