-- A `new` on a part comes to what it comes to on the whole state.
use Rattle.std.proofs.Common.{◌≡◌, ◌≢◌, ℕ, zero, suc, ◌<◌, ◌≤◌, nat_lt, ltb-true, ltb-false, Bool, true, false, ◌||◌, eq-eqb, ne_eqb, List, [], ◌∷◌, ◌++◌, length, drop, map, Option, Some, None, slice_get, slice_set, if◌then◌else◌, refl, ap, ap₂, sym, ◌∙◌, subst, arith, inl, inr}
use Rattle.std.specs.Option.{option_map}
use Rattle.std.proofs.lemmas.Option.{same_Some}
use Rattle.std.proofs.lemmas.Bool.{cases_Bool}
use Rattle.std.proofs.lemmas.List.{length-set}
use Rattle.nf_base.specs.declared.decl.MapDecl.{MapDecl}
use Rattle.nf_base.specs.declared.decl.ObjectId.TheVariants as object
use Rattle.nf_base.specs.declared.state.Entry.{Entry}
use Rattle.nf_base.specs.declared.state.Chain.{Chain}
use Rattle.nf_base.specs.Text.{Operation, Question, Get, Find, Test, Creation}
use Rattle.nf_base.specs.Chains.{no_chain, chain_at, maps_of, zeros_of, key_in, found, is_found, is_taken, is_full, is_vacant, stamped, fresh}
use Rattle.nf_base.specs.Context.{Context, Input, given}
use Rattle.nf_base.specs.Operations.{NewResult, Made, Taken, Full, Stopped, chosen, new_result, with_new}
use Rattle.nf_base.specs.Events.{Event, AskedNew, did, asked, asked_new}
use Rattle.nf_base.specs.Record.{NewEntry, made_by, is_full_answer}
use Rattle.nf_base.specs.Locations.{Location, Numbers, object_of, one_more, keys_from, entry_if, entry_made, locations_of, numbers_after}
use Rattle.nf_base.specs.Locations as location
use Rattle.nf_base.specs.Shares.{mix, none_vacant}
use Rattle.shard_laws.specs.Homes.{Homes, TellsMade, made_in_front, entries_made, MadeOwn, AllAt, owned, unseen}
use Rattle.shard_laws.specs.Agreement.{Scene, ChainAgrees, SlotsAgree, Agree, Goes, OwnPart, NewsAlike}
use Rattle.nf_base.proofs.Mixes.{get_own, get_other}
use Rattle.nf_laws.proofs.Plain.{IsPlain, plain_all, plain_asked, plain_did, question_event}
use Rattle.shard_laws.proofs.Agreeing.{HoldsIn, chain_stamp, givens_same, same_at, vars_bind}
use Rattle.shard_laws.proofs.ByNumber.{agree_set, past_end}
use Rattle.shard_laws.proofs.Finding.{found_same}
use Rattle.shard_laws.proofs.Going.{goes_all}

-- `new`
pub gap_is : (o : Option (Option Entry)) → is_vacant o ≡ true → o ≡ Some None
gap_is None h = cc
gap_is (Some None) h = refl
gap_is (Some (Some e)) h = cc

pub gap_not_full : (xs : List (Option Entry)) (i : ℕ) → slice_get xs i ≡ Some None → is_full xs ≡ false
gap_not_full [] i e = cc
gap_not_full (None ∷ xs) i e = refl
gap_not_full (Some x ∷ xs) zero e = cc
gap_not_full (Some x ∷ xs) (suc i) e = gap_not_full xs i e

none_free_head : (b r : Bool) → r ≡ false → (if b then false else r) ≡ false
none_free_head true r e = refl
none_free_head false r e = e

pub gap_is_free : (own : ℕ → Bool) (xs : List (Option Entry)) (i : ℕ) → own i ≡ true → slice_get xs i ≡ Some None → none_vacant own xs ≡ false
gap_is_free own [] i o e = cc
gap_is_free own (None ∷ xs) zero o e = rw o refl
gap_is_free own (None ∷ xs) (suc i) o e = none_free_head (own 0) _ (gap_is_free (λ k. own (suc k)) xs i o e)
gap_is_free own (Some x ∷ xs) zero o e = cc
gap_is_free own (Some x ∷ xs) (suc i) o e = gap_is_free (λ k. own (suc k)) xs i o e

none_left : (b : Bool) (x : Option Entry) (xs : List (Option Entry)) → is_full xs ≡ false → is_full ((if b then x else None) ∷ xs) ≡ false
none_left true None xs h = refl
none_left true (Some e) xs h = h
none_left false x xs h = refl

none_here : (b : Bool) (xs : List (Option Entry)) → is_full ((if b then None else None) ∷ xs) ≡ false
none_here true xs = refl
none_here false xs = refl

pub mix_not_full : (own : ℕ → Bool) (xs : List (Option Entry)) → is_full xs ≡ false → is_full (mix own unseen xs) ≡ false
mix_not_full own [] h = cc
mix_not_full own (None ∷ xs) h = none_here (own 0) _
mix_not_full own (Some e ∷ xs) h = none_left (own 0) (Some e) _ (mix_not_full (λ i. own (suc i)) xs h)

taken_same : (maps : List MapDecl) (labels : List ℕ) (now shard : List (Option Entry)) → ((m : ℕ) (decl : MapDecl) → slice_get maps m ≡ Some decl → found decl (key_in decl labels) shard ≡ found decl (key_in decl labels) now) → is_taken maps labels shard ≡ is_taken maps labels now
taken_same [] labels now shard f = refl
taken_same (d ∷ maps) labels now shard f = ap₂ (λ (o : Option ℕ) (b : Bool). is_found o || b) (f 0 d refl) (taken_same maps labels now shard (λ m decl e. f (suc m) decl e))

-- the names that a `new` asks for
pub all_split : (h : Homes) (w : ℕ) (xs ys : List Location) → AllAt h w (xs ++ ys) → AllAt h w xs × AllAt h w ys
all_split h w [] ys a = (tt, a)
all_split h w (x ∷ xs) ys a = let r = all_split h w xs ys a.1 in ((a.0, r.0), r.1)

pub keys_at : (h : Homes) (w k : ℕ) (key : ℕ → List ℕ → Location) (maps : List MapDecl) (labels : List ℕ) → ((m : ℕ) (ks : List ℕ) → object_of (key m ks) ≡ object.Chain k) → AllAt h w (keys_from key maps labels) → h.written (object.Chain k) ≡ true
    → (m : ℕ) (decl : MapDecl) → slice_get maps m ≡ Some decl → h.home (key m (key_in decl labels)) ≡ w
keys_at h w k key [] labels on a made m decl e = cc
keys_at h w k key (d ∷ maps) labels on a made zero decl e =
    subst (λ (x : MapDecl). h.home (key 0 (key_in x labels)) ≡ w) (same_Some _ _ e) (a.0 (ap h.written (on 0 (key_in d labels)) ∙ made))
keys_at h w k key (d ∷ maps) labels on a made (suc m) decl e = keys_at h w k (λ j. key (suc j)) maps labels (λ j ks. on (suc j) ks) a.1 made m decl e

-- the numbers after one more
more_chain : (k i : ℕ) (n : Numbers) (j l : ℕ) → j ≢ k → (one_more k i n).entry_no j l ≡ n.entry_no j l
more_chain k i n j l ne = rw (ne_eqb j k ne) refl

more_index : (k i : ℕ) (n : Numbers) (l : ℕ) → l ≢ i → (one_more k i n).entry_no k l ≡ n.entry_no k l
more_index k i n l ne = rw (eq-eqb k k refl, ne_eqb l i ne) refl

more_here : (k i : ℕ) (n : Numbers) → (one_more k i n).entry_no k i ≡ n.made k
more_here k i n = rw (eq-eqb k k refl, eq-eqb i i refl) refl

in_chains : (xs : List Chain) (k i : ℕ) (x : Option Entry) → slice_get (chain_at xs k).slots i ≡ Some x → k < length xs
in_chains xs k i x e = elim (cases_Bool (nat_lt k (length xs))) [
  | inl within ↦ ltb-true _ _ within
  | inr past ↦
      let le : length xs ≤ k = ltb-false k (length xs) past in
      let gone : chain_at xs k ≡ no_chain = past_end xs (no_chain) k le in
      let nothing : slice_get (chain_at xs k).slots i ≡ None = ap (λ (z : Chain). slice_get z.slots i) gone in
      cc
]

holds_later : (s : Scene) (n later : Numbers) (k i : ℕ) (e : Entry) → later.entry_no k i ≡ n.entry_no k i → HoldsIn s n k i e → HoldsIn s later k i e
holds_later s n later k i e same h = record {
  made = h.made;
  within = h.within;
  keys = λ m decl q. h.keys m decl q ∙ ap (λ (no : ℕ). s.homes.home (location.EntryNo k no)) (sym same);
  number = ap (λ (no : ℕ). s.homes.at (s.homes.home (location.EntryNo k no))) same ∙ h.number;
  kept = ap (s.homes.kept k i) same ∙ h.kept;
}

other_chain : (s : Scene) (n : Numbers) (k i j : ℕ) (a b : Chain) → j ≢ k → ChainAgrees s n j a b → ChainAgrees s (one_more k i n) j a b
other_chain s n k i j a b ne g = record {
  slots = record {
    here = g.slots.here;
    beside = g.slots.beside;
    each = λ l e at. holds_later s n (one_more k i n) j l e (more_chain k i n j l ne) (g.slots.each l e at);
  };
  stamps = g.stamps;
}

new_made : (s : Scene) (n : Numbers) (c d : Context) (new : Creation) (i : ℕ) → Agree s n c d → map (given s.packet d) new.labels ≡ map (given s.packet c) new.labels → s.homes.owner new.chain i ≡ s.queue → s.homes.written (object.Chain new.chain) ≡ true
    → ((m : ℕ) (decl : MapDecl) → slice_get (maps_of s.packet.decls new.chain) m ≡ Some decl → s.homes.home (location.KeyOf new.chain m (key_in decl (map (given s.packet c) new.labels))) ≡ s.bucket)
    → s.homes.home (location.EntryNo new.chain (n.made new.chain)) ≡ s.bucket → s.homes.kept new.chain i (n.made new.chain) ≡ true → slice_get (chain_at c.state.chains new.chain).slots i ≡ Some None
    → Agree s (one_more new.chain i n) (with_new s.packet c new i) (with_new s.packet d new i)
new_made s n c d new i a ls o made names life kept gap =
    let k = new.chain in
    let zeros = zeros_of s.packet.decls k in
    let labels = map (given s.packet c) new.labels in
    let within : k < length c.state.chains = in_chains c.state.chains k i None gap in
    let e_long : length c.state.chains ≡ length s.whole.chains = a.chains.long in
    let e_part : length d.state.chains ≡ length s.whole.chains = a.chains.long_part in
    let life_later : s.homes.home (location.EntryNo k ((one_more k i n).entry_no k i)) ≡ s.bucket = ap (λ (m : ℕ). s.homes.home (location.EntryNo k m)) (more_here k i n) ∙ life in
    record {
      chains = record {
        long = length-set c.state.chains k _ ∙ a.chains.long;
        long_part = length-set d.state.chains k _ ∙ a.chains.long_part;
        each = subst (λ (l : List ℕ). (j : ℕ) → ChainAgrees s (one_more k i n) j (chain_at (with_new s.packet c new i).state.chains j) (chain_at (slice_set d.state.chains k (stamped s.packet.time i (fresh l zeros) (chain_at d.state.chains k))) j)) (sym ls)
            (agree_set (no_chain) (ChainAgrees s n) (ChainAgrees s (one_more k i n)) c.state.chains d.state.chains k _ _ within (omega arith) a.chains.each
            (chain_stamp s n (one_more k i n) k (chain_at c.state.chains k) (chain_at d.state.chains k) i (fresh labels zeros) (a.chains.each k) o
            (λ j f ne h. holds_later s n (one_more k i n) k j f (more_index k i n j ne) h)
            (λ m decl q. names m decl q ∙ sym life_later) (ap s.homes.at life_later ∙ s.is ∙ sym o) (ap (s.homes.kept k i) (more_here k i n) ∙ kept) made)
            (λ j x y ne g. other_chain s n k i j x y ne g));
      };
      arrays = a.arrays;
      vars = vars_bind s c.vars d.vars new.var k i a.vars o;
      edits = a.edits;
      left = record { same = ap (drop 1) a.left.same };
    }

-- a vacant index looks vacant to each queue
gap_seen : (s : Scene) (n : Numbers) (k : ℕ) (now shard : List (Option Entry)) (i : ℕ) → SlotsAgree s n k now shard → slice_get now i ≡ Some None → slice_get shard i ≡ Some None
gap_seen s n k now shard i a gap = elim (cases_Bool (owned s.homes.owner s.queue k i)) [
  | inl own ↦ ap (λ zs. slice_get zs i) a.here ∙ get_own (owned s.homes.owner s.queue k) unseen now i own ∙ gap
  | inr other ↦ ap (λ zs. slice_get zs i) a.here ∙ get_other (owned s.homes.owner s.queue k) unseen now i other ∙ ap (option_map (λ (x : Option Entry). unseen i)) gap
]

-- what is known of the index where a `new` makes an entry
abbrev pub OwnIf : Scene → ℕ → Bool → NewResult → Type 0
OwnIf s k side to = s.by_part ≡ side → (j : ℕ) → to ≡ Made j → s.homes.owner k j ≡ s.queue

-- what a `new` comes to, test by test; `left` are the choices
full_left : (s : Scene) (n : Numbers) (c d : Context) (new : Creation) (left : List ℕ) → Agree s n c d → OwnIf s new.chain true (chosen (chain_at d.state.chains new.chain).slots left) → is_full (chain_at c.state.chains new.chain).slots ≡ true → s.tight ≡ false → NewsAlike s n new c d Full (chosen (chain_at d.state.chains new.chain).slots left)
full_left s n c d new [] a own full loose = loose
full_left s n c d new (i ∷ left) a own full loose = elim (cases_Bool (is_vacant (slice_get (chain_at d.state.chains new.chain).slots i))) [
  | inl gap ↦ elim (cases_Bool s.by_part) [
    | inl part ↦
        let mine : s.homes.owner new.chain i ≡ s.queue = own part i (rw gap refl) in
        let same : slice_get (chain_at d.state.chains new.chain).slots i ≡ slice_get (chain_at c.state.chains new.chain).slots i = same_at s n new.chain _ _ i (a.chains.each new.chain).slots mine in
        let room : is_full (chain_at c.state.chains new.chain).slots ≡ false = gap_not_full _ i (sym same ∙ gap_is _ gap) in
        cc
    | inr whole ↦ rw gap (whole, loose)
  ]
  | inr taken ↦ rw taken loose
]

stop_left : (s : Scene) (n : Numbers) (c d : Context) (new : Creation) (left : List ℕ) → Agree s n c d → OwnIf s new.chain false (chosen (chain_at c.state.chains new.chain).slots left) → s.stops new.chain (chain_at d.state.chains new.chain) ≡ true → s.tight ≡ false → NewsAlike s n new c d (chosen (chain_at c.state.chains new.chain).slots left) Stopped
stop_left s n c d new [] a own stop loose = loose
stop_left s n c d new (i ∷ left) a own stop loose = elim (cases_Bool (is_vacant (slice_get (chain_at c.state.chains new.chain).slots i))) [
  | inl gap ↦ elim (cases_Bool s.by_part) [
    | inl part ↦ rw gap (s.lax part, loose)
    | inr whole ↦
        let mine : s.homes.owner new.chain i ≡ s.queue = own whole i (rw gap refl) in
        let same : slice_get (chain_at d.state.chains new.chain).slots i ≡ slice_get (chain_at c.state.chains new.chain).slots i = same_at s n new.chain _ _ i (a.chains.each new.chain).slots mine in
        let free : none_vacant (owned s.homes.owner s.queue new.chain) (chain_at d.state.chains new.chain).slots ≡ false = gap_is_free _ _ i (eq-eqb _ _ mine) (same ∙ gap_is _ gap) in
        let halt = s.halts new.chain (chain_at d.state.chains new.chain) stop in
        cc
  ]
  | inr taken ↦ rw taken loose
]

-- where an entry is made
abbrev pub MakesAt : Scene → Numbers → Context → Context → Creation → List ℕ → Type 0
MakesAt s n c d new left = (i : ℕ) (rest : List ℕ) → left ≡ i ∷ rest → s.homes.owner new.chain i ≡ s.queue → slice_get (chain_at c.state.chains new.chain).slots i ≡ Some None → s.homes.home (location.EntryNo new.chain (n.made new.chain)) ≡ s.bucket → s.homes.kept new.chain i (n.made new.chain) ≡ true
    → Agree s (one_more new.chain i n) (with_new s.packet c new i) (with_new s.packet d new i)

room_left : (s : Scene) (n : Numbers) (c d : Context) (new : Creation) (left : List ℕ) → OwnIf s new.chain false (chosen (chain_at c.state.chains new.chain).slots left) → OwnIf s new.chain true (chosen (chain_at d.state.chains new.chain).slots left) → Agree s n c d → MakesAt s n c d new left
    → NewsAlike s n new c d (chosen (chain_at c.state.chains new.chain).slots left) (chosen (chain_at d.state.chains new.chain).slots left)
room_left s n c d new [] own own_part a made = tt
room_left s n c d new (i ∷ left) own own_part a made = elim (cases_Bool (is_vacant (slice_get (chain_at c.state.chains new.chain).slots i))) [
  | inl gap ↦
      let seen : slice_get (chain_at d.state.chains new.chain).slots i ≡ Some None = gap_seen s n new.chain _ _ i (a.chains.each new.chain).slots (gap_is _ gap) in
      let gap_part : is_vacant (slice_get (chain_at d.state.chains new.chain).slots i) ≡ true = ap is_vacant seen in
      let mine : s.homes.owner new.chain i ≡ s.queue = elim (cases_Bool s.by_part) [ inl part ↦ own_part part i (rw gap_part refl) | inr whole ↦ own whole i (rw gap refl) ] in
      rw (gap, gap_part) (refl, made i left refl mine (gap_is _ gap))
  | inr taken ↦ elim (cases_Bool (is_vacant (slice_get (chain_at d.state.chains new.chain).slots i))) [
    | inl gap_part ↦ elim (cases_Bool s.by_part) [
      | inl part ↦
          let mine : s.homes.owner new.chain i ≡ s.queue = own_part part i (rw gap_part refl) in
          let same : slice_get (chain_at d.state.chains new.chain).slots i ≡ slice_get (chain_at c.state.chains new.chain).slots i = same_at s n new.chain _ _ i (a.chains.each new.chain).slots mine in
          let both : is_vacant (slice_get (chain_at c.state.chains new.chain).slots i) ≡ true = ap is_vacant (sym same) ∙ gap_part in
          cc
      | inr whole ↦ rw (taken, gap_part) whole
    ]
    | inr taken_part ↦ rw (taken, taken_part) tt
  ]
]

came_room : (s : Scene) (n : Numbers) (c d : Context) (new : Creation) (left : List ℕ)
    → OwnIf s new.chain false (if is_full (chain_at c.state.chains new.chain).slots then Full else chosen (chain_at c.state.chains new.chain).slots left)
    → OwnIf s new.chain true (if s.stops new.chain (chain_at d.state.chains new.chain) then Stopped else if is_full (chain_at d.state.chains new.chain).slots then Full else chosen (chain_at d.state.chains new.chain).slots left)
    → Agree s n c d → (s.stops new.chain (chain_at d.state.chains new.chain) ≡ true → s.tight ≡ false) → (is_full (chain_at c.state.chains new.chain).slots ≡ true → s.tight ≡ false) → MakesAt s n c d new left
    → NewsAlike s n new c d (if is_full (chain_at c.state.chains new.chain).slots then Full else chosen (chain_at c.state.chains new.chain).slots left)
    (if s.stops new.chain (chain_at d.state.chains new.chain) then Stopped else if is_full (chain_at d.state.chains new.chain).slots then Full else chosen (chain_at d.state.chains new.chain).slots left)
came_room s n c d new left own own_part a loose crowded made = elim (cases_Bool (is_full (chain_at c.state.chains new.chain).slots)) [
  | inl full ↦ elim (cases_Bool (s.stops new.chain (chain_at d.state.chains new.chain))) [
    | inl stop ↦ rw (full, stop) (loose stop)
    | inr going ↦ elim (cases_Bool (is_full (chain_at d.state.chains new.chain).slots)) [
      | inl full_part ↦ rw (full, going, full_part) tt
      | inr room_part ↦ rw (full, going, room_part) (full_left s n c d new left a (λ b j e. own_part b j (rw (going, room_part) e)) full (crowded full))
    ]
  ]
  | inr room ↦
      let room_part : is_full (chain_at d.state.chains new.chain).slots ≡ false = ap is_full (a.chains.each new.chain).slots.here ∙ mix_not_full (owned s.homes.owner s.queue new.chain) _ room in
      elim (cases_Bool (s.stops new.chain (chain_at d.state.chains new.chain))) [
        | inl stop ↦ rw (room, stop) (stop_left s n c d new left a (λ b j e. own b j (rw room e)) stop (loose stop))
        | inr going ↦ rw (room, going, room_part) (room_left s n c d new left (λ b j e. own b j (rw room e)) (λ b j e. own_part b j (rw (going, room_part) e)) a made)
      ]
]

loosely : (s : Scene) (n : Numbers) (c d : Context) (new : Creation) → Agree s n c d → s.over new.chain (chain_at c.state.chains new.chain) ≡ false → s.stops new.chain (chain_at d.state.chains new.chain) ≡ true → s.tight ≡ false
loosely s n c d new a on stop = elim (cases_Bool s.tight) [
  | inl tight ↦ let over : s.over new.chain (chain_at c.state.chains new.chain) ≡ true = s.leads tight new.chain (chain_at c.state.chains new.chain) (chain_at d.state.chains new.chain) (a.chains.each new.chain).slots.here stop in cc
  | inr loose ↦ loose
]

crowdedly : (s : Scene) (n : Numbers) (c : Context) (new : Creation) → s.over new.chain (chain_at c.state.chains new.chain) ≡ false → is_full (chain_at c.state.chains new.chain).slots ≡ true → s.tight ≡ false
crowdedly s n c new on full = elim (cases_Bool s.tight) [
  | inl tight ↦ let room : is_full (chain_at c.state.chains new.chain).slots ≡ false = s.roomy tight new.chain (chain_at c.state.chains new.chain) on in cc
  | inr loose ↦ loose
]

-- what a `new` comes to with no key taken
abbrev pub over_left : Scene → Context → Creation → List ℕ → NewResult
over_left s c new left = if s.over new.chain (chain_at c.state.chains new.chain) then Stopped else if is_full (chain_at c.state.chains new.chain).slots then Full else chosen (chain_at c.state.chains new.chain).slots left

abbrev pub part_left : Scene → Context → Creation → List ℕ → NewResult
part_left s d new left = if s.stops new.chain (chain_at d.state.chains new.chain) then Stopped else if is_full (chain_at d.state.chains new.chain).slots then Full else chosen (chain_at d.state.chains new.chain).slots left

came_left : (s : Scene) (n : Numbers) (c d : Context) (new : Creation) (left : List ℕ) → OwnIf s new.chain false (over_left s c new left) → OwnIf s new.chain true (part_left s d new left) → Agree s n c d → MakesAt s n c d new left → NewsAlike s n new c d (over_left s c new left) (part_left s d new left)
came_left s n c d new left own own_part a made =
    elim (cases_Bool (s.over new.chain (chain_at c.state.chains new.chain))) [
      | inl over ↦
          let stop : s.stops new.chain (chain_at d.state.chains new.chain) ≡ true = s.follows new.chain (chain_at c.state.chains new.chain) (chain_at d.state.chains new.chain) (a.chains.each new.chain).slots.here over in
          rw (over, stop) tt
      | inr on ↦ rw on (came_room s n c d new left (λ b j e. own b j (rw on e)) own_part a (λ stop. loosely s n c d new a on stop) (λ full. crowdedly s n c new on full) made)
    ]

came_alike : (s : Scene) (n : Numbers) (c d : Context) (new : Creation) (taken : Bool) (left : List ℕ) → OwnIf s new.chain false (if taken then Taken else over_left s c new left) → OwnIf s new.chain true (if taken then Taken else part_left s d new left) → Agree s n c d → MakesAt s n c d new left
    → NewsAlike s n new c d (if taken then Taken else over_left s c new left) (if taken then Taken else part_left s d new left)
came_alike s n c d new true left own own_part a made = tt
came_alike s n c d new false left own own_part a made = came_left s n c d new left own own_part a made

-- what a part's `new` is known to make
own_made : (s : Scene) (k : ℕ) (labels : List ℕ) (more : List NewEntry) (to : NewResult) (j : ℕ) → MadeOwn s.homes.owner s.queue (made_in_front (made_by k labels to) more) → to ≡ Made j → s.homes.owner k j ≡ s.queue
own_made s k labels more to j a e = (subst (λ (z : NewResult). MadeOwn s.homes.owner s.queue (made_in_front (made_by k labels z) more)) e a).0

pub new_alike : (s : Scene) (z n : Numbers) (c d : Context) (new : Creation) (rest : List Event) → s.homes.written (object.Chain new.chain) ≡ true → Agree s n c d → Goes s z n (asked_new s.over s.packet c new rest) → OwnIf s new.chain true (new_result s.stops s.packet d new)
    → NewsAlike s n new c d (new_result s.over s.packet c new) (new_result s.stops s.packet d new) × AllAt s.homes s.bucket (entry_made n new.chain (new_result s.over s.packet c new)) × (s.strict ≡ true → is_full_answer (new_result s.over s.packet c new) ≡ false) × Goes s z (numbers_after n (AskedNew new.place new.chain (map (given s.packet c) new.labels) (new_result s.over s.packet c new))) rest
    × TellsMade s.homes n (made_by new.chain (map (given s.packet c) new.labels) (new_result s.over s.packet c new))
new_alike s z n c d new rest made a g own_part =
    let r = goes_all s z n c new.labels _ g in
    let k = new.chain in
    let labels = map (given s.packet c) new.labels in
    let maps = maps_of s.packet.decls k in
    let ls : map (given s.packet d) new.labels ≡ labels = givens_same s n c d a new.labels r.0 in
    let split = all_split s.homes s.bucket (entry_made n k (new_result s.over s.packet c new)) (keys_from (location.KeyOf k) maps labels) r.1.0.at_home in
    let names : (m : ℕ) (decl : MapDecl) → slice_get maps m ≡ Some decl → s.homes.home (location.KeyOf k m (key_in decl labels)) ≡ s.bucket =
    λ m decl e. keys_at s.homes s.bucket k (location.KeyOf k) maps labels (λ j ks. refl) split.1 made m decl e in
    let cs = (chain_at c.state.chains k).slots in
    let ds = (chain_at d.state.chains k).slots in
    let same : is_taken maps labels ds ≡ is_taken maps labels cs = taken_same maps labels cs ds (λ m decl e. found_same s n k m decl (key_in decl labels) cs ds (a.chains.each k).slots e (λ wr. names m decl e)) in
    let part_is : new_result s.stops s.packet d new ≡ (if is_taken maps labels cs then Taken else part_left s d new c.left) =
    ap₂ (λ (l left : List ℕ). if is_taken maps l ds then Taken else part_left s d new left) ls a.left.same ∙ ap (λ (b : Bool). if b then Taken else part_left s d new c.left) same in (
      subst (λ (x : NewResult). NewsAlike s n new c d (new_result s.over s.packet c new) x) (sym part_is)
          (came_alike s n c d new (is_taken maps labels cs) c.left (λ b j e. own_made s k labels [] (new_result s.over s.packet c new) j (r.1.0.own b) e) (λ b j e. own_part b j (part_is ∙ e)) a
          (λ i left e mine gap life kept. new_made s n c d new i a ls mine made names life kept gap)),
      split.0,
      r.1.0.granted,
      r.1.1,
      r.1.0.told.0,
    )

-- the part's entries: what a statement reads and does makes none
pub entries_plain : IsPlain entries_made
entries_plain = record { reads_ = record { use_ = λ chain i es. refl; load_ = λ place array i es. refl }; touch_ = λ chain i es. refl; free_ = λ chain i es. refl; store_ = λ place array i changed es. refl }

pub question_makes_none : (p : Input) (c : Context) (q : Question) (es : List Event) → entries_made (question_event p c q ∷ es) ≡ entries_made es
question_makes_none p c (Get place chain m key var) es = refl
question_makes_none p c (Find place chain at guards var) es = refl
question_makes_none p c (Test place comparison a b) es = refl

pub own_did : (s : Scene) (d : Context) (op : Operation) (rest : List Event) → OwnPart s (did s.packet d op rest) → OwnPart s rest
own_did s d op rest o b = subst (λ (xs : List NewEntry). MadeOwn s.homes.owner s.queue xs) (plain_did entries_made entries_plain s.packet d op rest) (o b)

pub own_asked : (s : Scene) (d : Context) (q : Question) (rest : List Event) → OwnPart s (asked s.packet d q rest) → OwnPart s rest
own_asked s d q rest o b = subst (λ (xs : List NewEntry). MadeOwn s.homes.owner s.queue xs) (plain_asked entries_made entries_plain.reads_ s.packet d q rest ∙ question_makes_none s.packet d q rest) (o b)

own_told : (s : Scene) (d : Context) (new : Creation) (rest : List Event) → OwnPart s (asked_new s.stops s.packet d new rest) → s.by_part ≡ true → MadeOwn s.homes.owner s.queue (made_in_front (made_by new.chain (map (given s.packet d) new.labels) (new_result s.stops s.packet d new)) (entries_made rest))
own_told s d new rest o b = subst (λ (xs : List NewEntry). MadeOwn s.homes.owner s.queue xs) (plain_all entries_made entries_plain.reads_ s.packet d new.labels (AskedNew new.place new.chain (map (given s.packet d) new.labels) (new_result s.stops s.packet d new) ∷ rest)) (o b)

pub own_new : (s : Scene) (d : Context) (new : Creation) (rest : List Event) → OwnPart s (asked_new s.stops s.packet d new rest) → OwnIf s new.chain true (new_result s.stops s.packet d new)
own_new s d new rest o b j e = own_made s new.chain (map (given s.packet d) new.labels) (entries_made rest) (new_result s.stops s.packet d new) j (own_told s d new rest o b) e

pub own_behind : (s : Scene) (d : Context) (new : Creation) (rest : List Event) → OwnPart s (asked_new s.stops s.packet d new rest) → OwnPart s rest
own_behind s d new rest o b = made_tail (made_by new.chain (map (given s.packet d) new.labels) (new_result s.stops s.packet d new)) (own_told s d new rest o b)
  where
    made_tail : (x : Option NewEntry) → MadeOwn s.homes.owner s.queue (made_in_front x (entries_made rest)) → MadeOwn s.homes.owner s.queue (entries_made rest)
    made_tail None a = a
    made_tail (Some made) a = a.1
