use Rattle.kernel.proofs.Words.{◌≡◌, ℕ, zero, suc, ◌<◌, ◌≤◌, [], None, length, get_or, refl, sym, ◌∙◌, ap, ap₂, subst, true, false}
use Rattle.kernel.proofs.Words.{inl, inr, arith, cases_lt, get_or_past, get, idle, is_alive, start, at_start, most_processes}
use Rattle.kernel.proofs.Words.{legal_start, Contender, nobody, contender_at, Fields, IsConsistent, part_at, Part, part_of, View, AreFirst, gone_slot}
use Rattle.ids.specs.declared.limits.TheConstants.{LARGEST_FILE}
use Rattle.model.specs.Forgetting.{whole}
use Rattle.model.specs.Limits.{Bounds}
use Rattle.model.specs.Moments.{Setup}
use Rattle.call_laws.proofs.Laws.{first_processes_live}
use Rattle.kernel.proofs.Entries.{no_priority, parts_alike}
use Rattle.kernel.proofs.kernel.Kernel.with_limits.Goals as goal
use Rattle.ids.specs.Bounds.{bounds_of}

abbrev part : View → Contender → Part
part v h = record { slot = v; held = h }

module _ (setup : Setup) (limit : ℕ) (f : Fields) (log : f.log ≡ record { entries = []; priorities = setup.priorities; limit = limit; forgotten = []; bounds = setup.bounds })
    (slot_count : length f.slots ≡ suc (length setup.priorities)) (slots : AreFirst f.slots (length setup.priorities))
    (held_count : length f.held ≡ suc (length setup.priorities)) (held_first : contender_at f.held 0 ≡ nobody)
    (held_each : (i : ℕ) → i < length setup.priorities → contender_at f.held (suc i) ≡ record { priority = get_or setup.priorities i 0; age = None; touches = [] })
    (state : f.stable.state ≡ start 0 setup) (few : length setup.priorities ≤ most_processes) (low : setup.bounds.file_bytes ≤ LARGEST_FILE) where
  no_part : (q : ℕ) → is_alive (start 0 setup) q ≡ false → part gone_slot nobody ≡ part_of (at_start 0 setup) q
  no_part q dead = sym (parts_alike _ false idle idle [] [] _ 0 [] [] dead refl refl (no_priority (get (start 0 setup).processes q) dead) refl)

  parts : (q : ℕ) → part_at f q ≡ part_of (at_start 0 setup) q
  parts zero = ap₂ part slots.none held_first ∙ no_part 0 ((first_processes_live 0 setup).none 0 (inl refl))
  parts (suc i) = elim (cases_lt i (length setup.priorities)) [
    | inl below ↦ ap₂ part (slots.made i below) (held_each i below) ∙ sym (parts_alike _ true idle idle [] [] _ _ [] [] ((first_processes_live 0 setup).alive i below) refl refl ((first_processes_live 0 setup).priority i below) refl)
    | inr above ↦ ap₂ part (get_or_past f.slots (suc i) gone_slot (omega (arith, slot_count))) (get_or_past f.held (suc i) nobody (omega (arith, held_count)))
        ∙ no_part (suc i) ((first_processes_live 0 setup).none (suc i) (inr (omega arith)))
  ]

  -- what the fields of a new kernel show
  first_holds : IsConsistent f
  first_holds = subst (λ l. IsConsistent (record f { log = l })) (sym log)
      (record { legal = legal_start 0 setup (whole limit); state = state; slot_count = slot_count; held_count = held_count; parts = parts; few = few; low = low; forgot = omega arith })

pub invariant_of-result : goal.invariant_of-result
invariant_of-result c = first_holds (record { priorities = c.args.priorities.now; bounds = bounds_of c.args.limits }) c.args.limits.entries _
    (λ i. record { entries = c.in_ok-history.ensures.empty i; priorities = c.in_ok-history.ensures.priorities i; limit = c.in_ok-history.ensures.limit i; forgotten = c.in_ok-history.ensures.whole i; bounds = c.in_ok-history.ensures.bounds i })
    c.in-Ok-new.ensures.count c.in-Ok-new.ensures.first c.in-Ok.ensures.count c.in-Ok.ensures.first c.in-Ok.ensures.each
    (c.in-Ok-new.ensures.state ∙ ap (λ (bounds : Bounds). start 0 (record { priorities = c.args.priorities.now; bounds = bounds })) c.bounds.ensures) c.requires.not_too_many c.requires.files

pub returns-clause-kept : goal.returns-clause-kept
returns-clause-kept c = let holds = invariant_of-result c in record { legal = holds.legal; state = holds.state; forgot = holds.forgot }
