-- The laws of calls, each from the laws of edits.
use Rattle.std.proofs.Common.{◌≡◌, ◌≢◌, ℕ, Bool, true, List, [], ◌∷◌, flat_map, sum_by, Result, Ok, Err, IfOk, inl, refl, sym, ap, subst, ◌∙◌}
use Rattle.std.specs.List.{AllByRecursion}
use Rattle.model.specs.State.{Kernel}
use Rattle.model.specs.Aspects.{Aspect, Keeps, KeepsAll}
use Rattle.model.specs.Plan.{Errno}
use Rattle.model.specs.Changes.{Edit, Make_directory, Make_file, Make_fixed, Name_file, Unname_file, Unname_directory, Move, Swap, Put_bytes, Wipe, Cut, Take, Append, Set_offset, Set_rights, Open_inode, Make_pipe, Share_slot, Clear_slot, New_process, End_process, news, marks, applied, all_applied, tidy}
use Rattle.model.specs.Calls.{Call, Done, own}
use Rattle.model.specs.Plans.{Change}
use Rattle.model.specs.Steps.{reads, outcome, edits, edits_of}
use Rattle.model.specs.Entries.{is_inside}
use Rattle.model.specs.Moments.{is_alive}
use Rattle.model.proofs.Laws.{all-append, depends_on_what_it_saw}
use Rattle.call_laws.specs.Objects.{IsThere, LeavesAlone}
use Rattle.call_laws.specs.WellFormed.{WellFormed}
use Rattle.call_laws.specs.CallLaws.{CallLaws, IsReady, changed}
use Rattle.call_laws.specs.Fits.{FitsAll, IsBy, IsAlive, LinksOnly, LinksFirst, OfOneKind, OwnAlike}
use Rattle.call_laws.proofs.Maps.{all-mapped}
use Rattle.call_laws.proofs.law.Alike.{edit_keeps}
use Rattle.call_laws.proofs.law.Marks.{edit_marks}
use Rattle.call_laws.proofs.edits.InodeMarks.{keeps_on, keeps_self}
use Rattle.call_laws.proofs.law.OwnAlike.{own_stays_alike, own_trans}
use Rattle.call_laws.proofs.law.OwnLeft.{own_is_left_alone}
use Rattle.call_laws.proofs.law.OwnTold.{alike_of_own, own_inside}
use Rattle.call_laws.proofs.law.There.{edit_grows, all_grow, there_stays, there_came}
use Rattle.call_laws.proofs.law.Well.{well_stays, all_well, some_alive, alive_some}
use Rattle.call_laws.proofs.law.Alive.{alive_stays, all_alive, alive_tidy}
use Rattle.call_laws.proofs.law.Nowhere.{nowhere_stays, nowhere_alike}
use Rattle.call_laws.proofs.calls.WillFit.{WillFit}
use Rattle.call_laws.proofs.calls.Fits.{call_fits}
use Rattle.call_laws.proofs.calls.Linking.{links_alike}
use Rattle.call_laws.proofs.law.WellTidy.{well_tidy, nowhere_tidy}
use Rattle.call_laws.proofs.law.TidyLater.{alike_tidied, tidied_alike, all_alike}
use Rattle.call_laws.proofs.calls.Reads.{left_there, calls_see}
use Rattle.call_laws.proofs.law.TidyUnseen.{tidying_is_unseen}
use Rattle.call_laws.proofs.law.Start.{well_start, tidy_start}
-- what the crates above cite besides
pub use Rattle.call_laws.proofs.FirstProcesses.{first_processes_live}
pub use Rattle.call_laws.proofs.Bounds.{the_bounds_stay}
pub use Rattle.call_laws.proofs.Maps.{Part, all-mapped, empty_gives, get_retained, none_by_keys, not_none, one_some, removed_other, removed_same, retained_some, some_part, some_same, stays_inserted, sum-alike, sum-empty, sum-zero, true_is_false}
pub use Rattle.call_laws.proofs.Numbers.{can_be_made}
pub use Rattle.call_laws.proofs.Tidying.{either_of, get_tidy, held_by, named_in, open_reached, reached, rooted_reached, tables_weight}
pub use Rattle.call_laws.proofs.Trees.{directories_are_a_tree_lem}
pub use Rattle.call_laws.proofs.calls.ContentsFit.{put_at, write_pipe}
pub use Rattle.call_laws.proofs.calls.Rules.{after_bind, allowed, either_given, weaken, whatever}
pub use Rattle.call_laws.proofs.edits.Contents.{HasBytes, has_bytes, no_names_file, no_names_pipe, no_target_file, no_target_pipe}
pub use Rattle.call_laws.proofs.edits.Ends.{end_count, ends-open_at, ends-set_process, ends-without_process, held, held-alike, held-insert, held-remove, without_process}
pub use Rattle.call_laws.proofs.edits.InodeMarks.{keeps_on, keeps_self, linked_is_other, linked_named, not_counted, other_old, some_linked, still_gives}
pub use Rattle.call_laws.proofs.edits.Names.{counted, has_names, links_named, links_unnamed, one}
pub use Rattle.call_laws.proofs.edits.NamesAlike.{IsNew, is_new, kept_kind}
pub use Rattle.call_laws.proofs.edits.NamesWell.{none_count, same_links}
pub use Rattle.call_laws.proofs.edits.Offsets.{ends_unmoved, set_there, with_offset}
pub use Rattle.call_laws.proofs.edits.Processes.{table_in}
pub use Rattle.call_laws.proofs.edits.Rights.{unset}
pub use Rattle.call_laws.proofs.edits.Swapped.{still_given, swapped_kinds, swapped_links}
pub use Rattle.call_laws.proofs.edits.SlotsAlike.{free_after, pipe_at, unused_after, with_tables}
pub use Rattle.call_laws.proofs.law.Alive.{alive_tidy}
pub use Rattle.call_laws.proofs.law.There.{edit_grows}
pub use Rattle.call_laws.proofs.law.TidyLater.{alike_tidied, stays_alike, tidied_alike}
pub use Rattle.call_laws.proofs.law.Well.{all_well, well_stays}
pub use Rattle.call_laws.proofs.law.WellTidy.{nowhere_tidy, well_tidy}

-- a refused call changes nothing, which fits
will_fit : (k : Kernel) (pid : ℕ) (inside : Bool) (chosen : List ℕ) (r : Result Change Errno) → IfOk r (WillFit k pid inside chosen) → WillFit k pid inside chosen (record { reply = Done; edits = edits_of r })
will_fit k pid inside chosen (Ok c) h = record { fits = h.fits; by = h.by; there = h.there }
will_fit k pid inside chosen (Err e) h = record { fits = λ can. tt; by = tt; there = tt }

-- the edits of a call fit where its numbers can be chosen, are the caller's own, and mark what is there
pub fit : (k : Kernel) (pid : ℕ) (call : Call) (chosen : List ℕ) → WellFormed k → is_alive k pid ≡ true → WillFit k pid (is_inside call) chosen (record { reply = Done; edits = edits k pid call })
fit k pid call chosen well alive = will_fit k pid (is_inside call) chosen (outcome k pid call) (call_fits k pid call chosen well (alive_some k pid alive))

pub fits : (k : Kernel) (pid : ℕ) (call : Call) (chosen : List ℕ) → IsReady WellFormed k pid call chosen → FitsAll chosen k (edits k pid call)
fits k pid call chosen ready = (fit k pid call chosen ready.well ready.alive).fits ready.numbers

-- coverage, along edits in a row
pub edits_mark : (chosen : List ℕ) (es : List Edit) (k : Kernel) → FitsAll chosen k es → (a : Aspect) → IsThere k a → AllByRecursion (λ w. LeavesAlone w a) (flat_map marks es) → Keeps k (all_applied chosen es k) a
edits_mark chosen [] k f a there alone = keeps_self k a
edits_mark chosen (e ∷ es) k f a there alone =
    let parts = all-append (λ w. LeavesAlone w a) (marks e) (flat_map marks es) alone in
    keeps_on k (applied chosen e k) (all_applied chosen es (applied chosen e k)) a (edit_marks chosen k e f.0 a there parts.0)
    (edits_mark chosen es (applied chosen e k) f.1 a (there_stays chosen k (applied chosen e k) (edit_grows chosen k e f.0) a there) parts.1)

-- what two states have alike after edits in a row
pub record AlikeAfter (now later now' later' : Kernel) (pid : ℕ) : Type 0 where
  pub kept : (a : Aspect) → Keeps now later a → Keeps now' later' a
  pub own : OwnAlike now' later' pid

-- edits that give no further name
no_link : (P : ℕ → Type 0) (e : Edit) → LinksOnly (λ n. ⊥) e → LinksOnly P e
no_link P (Name_file d x n) h = absurd h
no_link P (Make_directory d x i) h = tt
no_link P (Make_file d x i) h = tt
no_link P (Make_fixed d x fixed i) h = tt
no_link P (Unname_file d x n) h = tt
no_link P (Unname_directory d x n) h = tt
no_link P (Move d x e y n replaced) h = tt
no_link P (Swap d x n e y m) h = tt
no_link P (Put_bytes n place bytes before) h = tt
no_link P (Wipe n place count) h = tt
no_link P (Cut n before after) h = tt
no_link P (Take p count) h = tt
no_link P (Append p bytes) h = tt
no_link P (Set_offset d place) h = tt
no_link P (Set_rights n rights) h = tt
no_link P (Open_inode i inode how q f) h = tt
no_link P (Make_pipe i q f g) h = tt
no_link P (Share_slot q f d pipes) h = tt
no_link P (Clear_slot q f pipes) h = tt
no_link P (New_process child parent pipes) h = tt
no_link P (End_process q pipes) h = tt

no_links : (P : ℕ → Type 0) (es : List Edit) → AllByRecursion (LinksOnly (λ n. ⊥)) es → LinksFirst P es
no_links P [] h = tt
no_links P (e ∷ es) h = (no_link P e h.0, h.1)

pub edits_keep : (chosen : List ℕ) (es : List Edit) (now later : Kernel) (pid : ℕ) (inside : Bool) → AllByRecursion (IsBy pid inside) es → OwnAlike now later pid → FitsAll chosen now es → FitsAll chosen later es → LinksFirst (OfOneKind now later) es → KeepsAll now later (flat_map marks es)
    → AlikeAfter now later (all_applied chosen es now) (all_applied chosen es later) pid
edits_keep chosen [] now later pid inside by own f g links marked = record { kept = λ a h. h; own = own }
edits_keep chosen (e ∷ es) now later pid inside by own f g links marked =
    let parts = all-append (Keeps now later) (marks e) (flat_map marks es) marked in
    let step = edit_keeps chosen now later e pid inside by.0 own f.0 g.0 links.0 parts.0 in
    let rest : AlikeAfter (applied chosen e now) (applied chosen e later) (all_applied chosen es (applied chosen e now)) (all_applied chosen es (applied chosen e later)) pid =
    edits_keep chosen es (applied chosen e now) (applied chosen e later) pid inside by.1 (own_stays_alike chosen now later e pid inside by.0 f.0 g.0 own) f.1 g.1 (no_links (OfOneKind (applied chosen e now) (applied chosen e later)) es links.1) (all-mapped (flat_map marks es) step parts.1) in
    record { kept = λ a h. rest.kept a (step a h); own = rest.own }

-- the process's own part alone stays alike, whatever is marked
edits_own : (chosen : List ℕ) (es : List Edit) (now later : Kernel) (pid : ℕ) (inside : Bool) → AllByRecursion (IsBy pid inside) es → OwnAlike now later pid → FitsAll chosen now es → FitsAll chosen later es → OwnAlike (all_applied chosen es now) (all_applied chosen es later) pid
edits_own chosen [] now later pid inside by own f g = own
edits_own chosen (e ∷ es) now later pid inside by own f g =
    edits_own chosen es (applied chosen e now) (applied chosen e later) pid inside by.1 (own_stays_alike chosen now later e pid inside by.0 f.0 g.0 own) f.1 g.1

-- another's edits leave it alone
others_alone : (chosen : List ℕ) (es : List Edit) (k : Kernel) (pid other : ℕ) (inside : Bool) → AllByRecursion (IsBy other inside) es → pid ≢ other → IsAlive k pid → WellFormed k → FitsAll chosen k es → OwnAlike k (all_applied chosen es k) pid
others_alone chosen [] k pid other inside by away alive well f = record { root = refl; bounds = refl; table = refl; fixed = λ f d is. refl }
others_alone chosen (e ∷ es) k pid other inside by away alive well f =
    own_trans k (applied chosen e k) (all_applied chosen es (applied chosen e k)) pid
    (own_is_left_alone chosen k e pid other inside by.0 away alive well f.0)
    (others_alone chosen es (applied chosen e k) pid other inside by.1 away (alive_stays chosen k e other inside pid by.0 (inl away) f.0 alive) (well_stays chosen k e well f.0) f.1)

-- the same call in another state that keeps what it saw makes the same edits there
same_edits : (k l : Kernel) (pid : ℕ) (call : Call) → own l pid call ≡ own k pid call → KeepsAll k l (reads k pid call) → edits l pid call ≡ edits k pid call
same_edits k l pid call same kept = (depends_on_what_it_saw k l pid call same kept).edits

fits_too : (k l : Kernel) (pid : ℕ) (call : Call) (chosen : List ℕ) → IsReady WellFormed l pid call chosen → edits l pid call ≡ edits k pid call → FitsAll chosen l (edits k pid call)
fits_too k l pid call chosen ready same = subst (FitsAll chosen l) same (fits l pid call chosen ready)

-- to tidy before the edits too changes nothing
tidied_later : (k : Kernel) (pid : ℕ) (call : Call) (chosen : List ℕ) → IsReady WellFormed k pid call chosen → tidy (all_applied chosen (edits k pid call) (tidy k)) ≡ tidy (changed k pid call chosen)
tidied_later k pid call chosen ready =
    let same : edits (tidy k) pid call ≡ edits k pid call = (tidying_is_unseen k pid call ready.well).edits in
    let ready_too : IsReady WellFormed (tidy k) pid call chosen = record {
      well = well_tidy k ready.well;
      alive = alive_tidy k pid ready.alive;
      numbers = record {
        count = ready.numbers.count ∙ ap (sum_by news) (sym same);
        unused = all-mapped chosen (λ n h. nowhere_tidy k n h) ready.numbers.unused;
        different = ready.numbers.different;
      };
    } in
    alike_tidied (changed k pid call chosen) (all_applied chosen (edits k pid call) (tidy k))
    (all_alike chosen (edits k pid call) k (tidy k) (tidied_alike k ready.well) (fits k pid call chosen ready) (fits_too k (tidy k) pid call chosen ready_too same))

-- Beside each law the file that proves it. That the edits of a call fit, on which most stand, is proved in calls/Fits.antt.
pub calls_are_lawful_lem : CallLaws WellFormed
calls_are_lawful_lem = record {
  -- model/proofs/Law.antt
  local = depends_on_what_it_saw;
  -- law/Marks.antt, for one edit, and `edits_mark` for edits in a row
  marks = λ k pid call chosen ready a there alone. edits_mark chosen (edits k pid call) k (fits k pid call chosen ready) a there alone;
  -- law/Alike.antt, for one edit, calls/Linking.antt, and `edits_keep` for edits in a row
  alike = λ k l pid call chosen ready ready_too inside same saw marked a kept.
      let made = same_edits k l pid call same saw in
      subst (λ es. Keeps (changed k pid call chosen) (all_applied chosen es l) a) (sym made)
      ((edits_keep chosen (edits k pid call) k l pid (is_inside call) (fit k pid call chosen ready.well ready.alive).by (alike_of_own k l pid call ready.well ready_too.well same) (fits k pid call chosen ready) (fits_too k l pid call chosen ready_too made) (links_alike k l pid call ready.well ready_too.well same saw) marked).kept a kept);
  -- law/OwnAlike.antt, for one edit; law/OwnTold.antt: what a call is told of its process
  own_alike = λ k l pid call chosen ready ready_too inside same saw c c_inside same_c.
      let made = same_edits k l pid call same saw in
      own_inside (changed k pid call chosen) (changed l pid call chosen) pid c c_inside
      (subst (λ es. OwnAlike (changed k pid call chosen) (all_applied chosen es l) pid) (sym made)
      (edits_own chosen (edits k pid call) k l pid (is_inside call) (fit k pid call chosen ready.well ready.alive).by (alike_of_own k l pid call ready.well ready_too.well same) (fits k pid call chosen ready) (fits_too k l pid call chosen ready_too made)));
  -- law/OwnLeft.antt, for one edit; law/OwnTold.antt
  own_left = λ k pid call chosen ready q away alive c c_inside.
      own_inside k (changed k pid call chosen) q c c_inside
      (others_alone chosen (edits k pid call) k q pid (is_inside call) (fit k pid call chosen ready.well ready.alive).by away (alive_some k q alive) ready.well (fits k pid call chosen ready));
  -- calls/Reads.antt, of what a call reads; calls/Fits.antt, of what it writes
  touches_there = λ k pid call well alive. (all-mapped (reads k pid call) (left_there k) (calls_see k pid call well), (fit k pid call [] well alive).there);
  -- law/There.antt
  there_before = λ k pid call chosen ready a there. there_came chosen k (changed k pid call chosen) (all_grow chosen (edits k pid call) k (fits k pid call chosen ready)) a there;
  -- law/There.antt
  there_after = λ k pid call chosen ready a there. there_stays chosen k (changed k pid call chosen) (all_grow chosen (edits k pid call) k (fits k pid call chosen ready)) a there;
  -- law/Nowhere.antt
  nowhere_after = λ k pid call chosen ready n out nowhere.
      nowhere_stays chosen k (changed k pid call chosen) (all_grow chosen (edits k pid call) k (fits k pid call chosen ready)) (all_well chosen (edits k pid call) k ready.well (fits k pid call chosen ready)) n out nowhere;
  -- law/Nowhere.antt
  nowhere_alike = nowhere_alike;
  -- law/Well.antt
  well_after = λ k pid call chosen ready. all_well chosen (edits k pid call) k ready.well (fits k pid call chosen ready);
  -- law/Alive.antt
  alive_after = λ k pid call chosen ready q other alive.
      some_alive (changed k pid call chosen) q (all_alive chosen (edits k pid call) k pid (is_inside call) q (fit k pid call chosen ready.well ready.alive).by other (fits k pid call chosen ready) (alive_some k q alive));
  -- `WellFormed` says it
  alive_counted = λ k well. well.counted;
  -- law/WellTidy.antt
  well_tidy = well_tidy;
  -- law/TidyUnseen.antt
  tidy_unseen = tidying_is_unseen;
  -- law/TidyLater.antt
  tidy_later = tidied_later;
  -- law/TidyLater.antt
  tidy_twice = λ k well. alike_tidied k (tidy k) (tidied_alike k well);
  -- law/WellTidy.antt
  nowhere_tidy = nowhere_tidy;
  -- law/Start.antt
  well_start = well_start;
  -- law/Start.antt
  tidy_start = tidy_start;
}
