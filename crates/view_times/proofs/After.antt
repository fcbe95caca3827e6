-- What is known behind each call, by the tables that it leaves, and that places stay.
use Rattle.std.proofs.Common.{◌≡◌, ◌≢◌, ℕ, ◌+◌, ◌≤◌, ◌==◌, ◌&&◌, Bool, true, false, cond, Option, Some, None, nat_cmp, refl, sym, ap, ◌∙◌, arith, eq-eqb, eqb-true, is_some, min, ne_eqb, true≢false}
use Rattle.std.proofs.lemmas.Bool.{cond-false, cond-true}
use Rattle.fuse.specs.declared.request.Time.{Time}
use Rattle.model.specs.FiniteMap.{FinMap, empty, get, get-empty, insert, remove}
use Rattle.view_times.specs.Events.{notes_of}
use Rattle.view_times.specs.Kept.{HavePlaces, Kept, known, merged_if, note_at, note_by, notes_by, notes_in, room_by, room_of, times_by, times_in}
use Rattle.view_times.specs.Known.{aborted, committed, freed, noted_by, nothing_known, put}
use Rattle.view_times.specs.Noted.{behind, merged, nothing, over}
use Rattle.view_times.specs.Rows.{Rows}
use Rattle.view_times.specs.Times.{first_times}
use Rattle.view_times.specs.declared.event.Event.{Event}
use Rattle.view_times.specs.declared.noted.Notes.{Notes}
use Rattle.view_times.specs.declared.times.Times.{Times}
use Rattle.view_times.proofs.Calls.{is_view_commit, is_view_note, plain_note, view_commit, view_note}
use Rattle.view_times.proofs.Merging.{merged_nothing}
use Rattle.view_times.proofs.Puts.{same_known}
use Rattle.view_times.proofs.Tables.{taken_notes}
use Rattle.view_times.proofs.Written.{inserted_at, removed_at}

abbrev Everybody : Type 0
Everybody = FinMap nat_cmp Times

abbrev Tables : Type 0
Tables = FinMap nat_cmp (Rows Notes)

abbrev pub kept_of : Rows Times → Tables → Kept
kept_of everybody views = record { everybody = everybody; views = views }

-- ---- at the start, and where nothing changes

pub starts_unknown : (everybody : Rows Times) (views : Tables) → everybody.rows ≡ empty → views ≡ empty → known (kept_of everybody views) ≡ nothing_known
starts_unknown everybody views no_times no_notes = same_known (known (kept_of everybody views)) nothing_known
    (λ q. ap (λ (m : Everybody). times_in m q) no_times ∙ ap times_by (get-empty nat_cmp q))
    (λ v q. ap (λ (m : Tables). notes_in m v q) no_notes ∙ ap (λ (o : Option (Rows Notes)). notes_by (note_by o q)) (get-empty nat_cmp v))

pub starts_with_places : (everybody : Everybody) (views : Tables) → views ≡ empty → HavePlaces everybody views
starts_with_places everybody views no_notes view inode noted =
    let none : note_at views view inode ≡ None = ap (λ (m : Tables). note_at m view inode) no_notes ∙ ap (λ (o : Option (Rows Notes)). note_by o inode) (get-empty nat_cmp view) in
    absurd (true≢false (sym noted ∙ ap is_some none))

pub stays_known : (everybody after : Rows Times) (views tables : Tables) → after.rows ≡ everybody.rows → ((v q : ℕ) → note_at tables v q ≡ note_at views v q) → known (kept_of after tables) ≡ known (kept_of everybody views)
stays_known everybody after views tables rows notes = same_known (known (kept_of after tables)) (known (kept_of everybody views))
    (λ q. ap (λ (m : Everybody). times_in m q) rows) (λ v q. ap notes_by (notes v q))

pub places_stay : (everybody after : Everybody) (views tables : Tables) → HavePlaces everybody views → ((q : ℕ) → is_some (get everybody q) ≡ true → is_some (get after q) ≡ true) → ((v q : ℕ) → is_some (note_at tables v q) ≡ true → is_some (note_at views v q) ≡ true) → HavePlaces after tables
places_stay everybody after views tables places there noted view inode is = there inode (places view inode (noted view inode is))

-- ---- a place is written

placed : (b : Bool) (times : Times) (o : Option Times) → times_by (cond b (Some times) o) ≡ cond b times (times_by o)
placed true times o = refl
placed false times o = refl

pub times_put : (everybody : Everybody) (inode : ℕ) (times : Times) (q : ℕ) → times_in (insert everybody inode times) q ≡ put inode times (times_in everybody) q
times_put everybody inode times q = ap times_by (inserted_at everybody inode times q) ∙ placed (inode == q) times (get everybody q)

still : (b : Bool) (times : Times) (o : Option Times) → is_some o ≡ true → is_some (cond b (Some times) o) ≡ true
still true times o there = refl
still false times o there = there

pub places_put : (everybody : Everybody) (inode : ℕ) (times : Times) (q : ℕ) → is_some (get everybody q) ≡ true → is_some (get (insert everybody inode times) q) ≡ true
places_put everybody inode times q there = ap is_some (inserted_at everybody inode times q) ∙ still (inode == q) times (get everybody q) there

pub place_put : (everybody : Everybody) (inode : ℕ) (times : Times) → is_some (get (insert everybody inode times) inode) ≡ true
place_put everybody inode times = ap is_some (inserted_at everybody inode times inode ∙ cond-true (inode == inode) (Some times) (get everybody inode) (eq-eqb inode inode refl))

-- ---- an event

module _ (everybody after : Rows Times) (views : Tables) (inode : ℕ) (event : Event) (now : Time) where
  -- in the plain tree
  pub known_plain : after.rows ≡ insert everybody.rows inode (over (notes_of event now) (times_in everybody.rows inode)) → known (kept_of after views) ≡ noted_by (known (kept_of everybody views)) 0 inode event now
  known_plain rows = same_known (known (kept_of after views)) (plain_note (known (kept_of everybody views)) 0 inode event now)
      (λ q. ap (λ (m : Everybody). times_in m q) rows ∙ times_put everybody.rows inode (over (notes_of event now) (times_in everybody.rows inode)) q)
      (λ v q. refl)

  -- in a transaction
  pub known_noted : (view : ℕ) (tables : Tables) → (view == 0) ≡ false → after.rows ≡ insert everybody.rows inode (times_in everybody.rows inode) → ((v q : ℕ) → note_at tables v q ≡ cond (view == v && inode == q) (Some (behind (notes_of event now) (notes_in views view inode))) (note_at views v q)) → known (kept_of after tables) ≡ noted_by (known (kept_of everybody views)) view inode event now
  known_noted view tables live rows notes =
      same_known (known (kept_of after tables)) (view_note (known (kept_of everybody views)) view inode event now)
      (λ q. ap (λ (m : Everybody). times_in m q) rows ∙ times_put everybody.rows inode (times_in everybody.rows inode) q ∙ unchanged q (inode == q) refl)
      (λ v q. ap notes_by (notes v q) ∙ there v q (view == v) refl)
      ∙ sym (is_view_note (known (kept_of everybody views)) view inode event now live)
    where
      unchanged : (q : ℕ) (b : Bool) → (inode == q) ≡ b → cond b (times_in everybody.rows inode) (times_in everybody.rows q) ≡ times_in everybody.rows q
      unchanged q true same = ap (times_in everybody.rows) (eqb-true inode q same)
      unchanged q false differ = refl

      one : (b : Bool) (o : Option Notes) → notes_by (cond b (Some (behind (notes_of event now) (notes_in views view inode))) o) ≡ cond b (behind (notes_of event now) (notes_in views view inode)) (notes_by o)
      one true o = refl
      one false o = refl

      there : (v q : ℕ) (b : Bool) → (view == v) ≡ b → notes_by (cond (b && inode == q) (Some (behind (notes_of event now) (notes_in views view inode))) (note_at views v q)) ≡ cond b (put inode (behind (notes_of event now) (notes_in views view inode)) (notes_in views view)) (notes_in views v) q
      there v q true same = one (inode == q) (note_at views v q) ∙ ap (λ (w : ℕ). cond (inode == q) (behind (notes_of event now) (notes_in views view inode)) (notes_in views w q)) (sym (eqb-true view v same))
      there v q false differ = refl

-- what is noted has a place then
pub places_noted : (everybody : Everybody) (views tables : Tables) (view inode : ℕ) (times : Times) (notes : Notes) → HavePlaces everybody views → ((v q : ℕ) → note_at tables v q ≡ cond (view == v && inode == q) (Some notes) (note_at views v q)) → HavePlaces (insert everybody inode times) tables
places_noted everybody views tables view inode times notes places is v q noted = by (view == v) (inode == q) refl (sym (ap is_some (is v q)) ∙ noted)
  where
    old : is_some (note_at views v q) ≡ true → is_some (get (insert everybody inode times) q) ≡ true
    old there = places_put everybody inode times q (places v q there)

    by : (a b : Bool) → (inode == q) ≡ b → is_some (cond (a && b) (Some notes) (note_at views v q)) ≡ true → is_some (get (insert everybody inode times) q) ≡ true
    by true true same there = ap (λ (n : ℕ). is_some (get (insert everybody inode times) n)) (sym (eqb-true inode q same)) ∙ place_put everybody inode times
    by true false differ there = old there
    by false b e there = old there

-- ---- a commit

-- what is noted is merged where it has a place
merged_place : (notes : Option Notes) (times : Option Times) → (is_some notes ≡ true → is_some times ≡ true) → times_by (merged_if (notes_by notes) times) ≡ merged (notes_by notes) (times_by times)
merged_place notes (Some times) placed = refl
merged_place None None placed = refl
merged_place (Some notes) None placed = absurd (true≢false (sym (placed refl)))

pub merged_still : (notes : Notes) (times : Option Times) → is_some (merged_if notes times) ≡ is_some times
merged_still notes None = refl
merged_still notes (Some times) = refl

-- what is left of what views have noted
left_notes : (b : Bool) (o : Option Notes) → notes_by (cond b None o) ≡ cond b nothing (notes_by o)
left_notes true o = refl
left_notes false o = refl

left_is : (b : Bool) (o : Option Notes) → is_some (cond b None o) ≡ true → is_some o ≡ true
left_is true o there = absurd (true≢false (sym there))
left_is false o there = there

at_one : (b : Bool) (f g : ℕ → Notes) (q : ℕ) → cond b (f q) (g q) ≡ cond b f g q
at_one true f g q = refl
at_one false f g q = refl

pub taken_known : (views : Tables) (view v q : ℕ) → notes_in (remove views view) v q ≡ put view (λ (inode : ℕ). nothing) (notes_in views) v q
taken_known views view v q =
    ap notes_by (taken_notes views view v q) ∙ left_notes (view == v) (note_at views v q)
    ∙ at_one (view == v) (λ (inode : ℕ). nothing) (notes_in views v) q

pub taken_places : (everybody after : Everybody) (views : Tables) (view : ℕ) → HavePlaces everybody views → ((q : ℕ) → is_some (get everybody q) ≡ true → is_some (get after q) ≡ true) → HavePlaces after (remove views view)
taken_places everybody after views view places there =
    places_stay everybody after views (remove views view) places there
    (λ v q noted. left_is (view == v) (note_at views v q) (sym (ap is_some (taken_notes views view v q)) ∙ noted))

module _ (everybody after : Rows Times) (views : Tables) (view : ℕ) (table : Option (Rows Notes)) (there : get views view ≡ table) (is : (q : ℕ) → get after.rows q ≡ merged_if (notes_by (note_by table q)) (get everybody.rows q)) where
  pub known_committed : (view == 0) ≡ false → HavePlaces everybody.rows views → known (kept_of after (remove views view)) ≡ committed (known (kept_of everybody views)) view
  known_committed live places =
      same_known (known (kept_of after (remove views view))) (view_commit (known (kept_of everybody views)) view)
      (λ q. ap times_by (is q ∙ ap (λ (o : Option (Rows Notes)). merged_if (notes_by (note_by o q)) (get everybody.rows q)) (sym there))
      ∙ merged_place (note_at views view q) (get everybody.rows q) (places view q))
      (taken_known views view)
      ∙ sym (is_view_commit (known (kept_of everybody views)) view live)

  pub committed_places : HavePlaces everybody.rows views → HavePlaces after.rows (remove views view)
  committed_places places = taken_places everybody.rows after.rows views view places
      (λ q placed. ap is_some (is q) ∙ merged_still (notes_by (note_by table q)) (get everybody.rows q) ∙ placed)

-- where the view had no table
pub nothing_merged : (everybody : Everybody) (q : ℕ) → get everybody q ≡ merged_if (notes_by (note_by None q)) (get everybody q)
nothing_merged everybody q = sym (merged_nothing (get everybody q))

-- ---- an abort

pub known_aborted : (everybody : Rows Times) (views : Tables) (view : ℕ) → known (kept_of everybody (remove views view)) ≡ aborted (known (kept_of everybody views)) view
known_aborted everybody views view = same_known (known (kept_of everybody (remove views view))) (aborted (known (kept_of everybody views)) view) (λ q. refl) (taken_known views view)

pub aborted_places : (everybody : Everybody) (views : Tables) (view : ℕ) → HavePlaces everybody views → HavePlaces everybody (remove views view)
aborted_places everybody views view places = taken_places everybody everybody views view places (λ q placed. placed)

-- ---- an inode that is gone

module _ (everybody after : Rows Times) (views tables : Tables) (inode : ℕ) (rows : after.rows ≡ remove everybody.rows inode) (notes : (v q : ℕ) → note_at tables v q ≡ cond (inode == q) None (note_at views v q)) where
  gone_times : (b : Bool) (o : Option Times) → times_by (cond b None o) ≡ cond b first_times (times_by o)
  gone_times true o = refl
  gone_times false o = refl

  pub known_freed : known (kept_of after tables) ≡ freed (known (kept_of everybody views)) inode
  known_freed = same_known (known (kept_of after tables)) (freed (known (kept_of everybody views)) inode)
      (λ q. ap (λ (m : Everybody). times_in m q) rows ∙ ap times_by (removed_at everybody.rows inode q) ∙ gone_times (inode == q) (get everybody.rows q))
      (λ v q. ap notes_by (notes v q) ∙ left_notes (inode == q) (note_at views v q))

  pub freed_places : HavePlaces everybody.rows views → HavePlaces after.rows tables
  freed_places places v q noted = by (inode == q) refl (sym (ap is_some (notes v q)) ∙ noted)
    where
      by : (b : Bool) → (inode == q) ≡ b → is_some (cond b None (note_at views v q)) ≡ true → is_some (get after.rows q) ≡ true
      by true same there = absurd (true≢false (sym there))
      by false differ there =
          ap (λ (m : Everybody). is_some (get m q)) rows
          ∙ ap is_some (removed_at everybody.rows inode q ∙ cond-false (inode == q) None (get everybody.rows q) differ)
          ∙ places v q there

-- ---- room

-- the room of a view, by that of everybody's table and that of its own
pub room_more : (everybody after : Rows Times) (views tables : Tables) (more view : ℕ) → everybody.room ≤ after.room + more → room_by (get views view) ≤ room_by (get tables view) + more → room_of (kept_of everybody views) view ≤ room_of (kept_of after tables) view + more
room_more everybody after views tables more view one own = by (view == 0)
  where
    by : (b : Bool) → cond b everybody.room (min everybody.room (room_by (get views view))) ≤ cond b after.room (min after.room (room_by (get tables view))) + more
    by true = one
    by false = omega (arith, one, own)

-- of another view than the one that was taken
pub taken_room : (views : Tables) (view other : ℕ) → other ≢ view → room_by (get (remove views view) other) ≡ room_by (get views other)
taken_room views view other away = ap room_by (removed_at views view other ∙ cond-false (view == other) None (get views other) (ne_eqb view other (λ same. away (sym same))))
