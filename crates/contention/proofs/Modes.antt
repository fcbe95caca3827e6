-- The list mode by what contenders have touched is that of the definitions.
use Rattle.std.proofs.Common.{◌≡◌, ℕ, ◌∙◌, sym, ap, List, length}
use Rattle.ids.specs.declared.entry.Rank.{Rank}
use Rattle.model.specs.Steps.{Touch}
use Rattle.model.specs.Moments.{Moment, held_by}
use Rattle.model.specs.Modes.{reads_names, is_reader, is_writer, mode_of}
use Rattle.records.specs.Touches.{touched_by}
use Rattle.list_modes.specs.Holding.{mode_among}
use Rattle.marked_records.specs.Marks.{changes_names, marks_at, mode_by_touches}
use Rattle.marked_records.proofs.Laws.{writer_held}
use Rattle.contention.specs.Contenders.{Contender, contender_at, AreContendersOf, mode_by_contenders}
use Rattle.contention.specs.Ranks.{ranked_list}
use Rattle.contention.proofs.Standing.{ranked_there, ranked_count}
use Rattle.contention.proofs.Distinct.{any_distinct}

pub mode_ranked : (ranks : List Rank) (lists : List (List Touch)) (d : ℕ) → length lists ≡ length ranks → mode_by_touches lists d ≡ mode_by_contenders (ranked_list ranks lists) d
mode_ranked ranks lists d count = λ i. mode_among (λ q. (marks_at d (own q i)).names_read) (λ q. (marks_at d (own q i)).entry_written) (many i) where
  own : (q : ℕ) → touched_by lists q ≡ (contender_at (ranked_list ranks lists) q).touches
  own q = sym (ap (λ (c : Contender). c.touches) (ranked_there ranks lists q count))

  many : length lists ≡ length (ranked_list ranks lists)
  many = count ∙ sym (ranked_count ranks lists)

pub mode_of_moment : (m : Moment) (all : List Contender) (d : ℕ) → AreContendersOf m all → mode_by_contenders all d ≡ mode_of m d
mode_of_moment m all d kept = λ i. mode_among (λ q. reads q i) (λ q. writes q i) (kept.count i) where
  reads : (q : ℕ) → (marks_at d (contender_at all q).touches).names_read ≡ is_reader d (held_by m q)
  reads q = ap (λ (c : Contender). (marks_at d c.touches).names_read) (kept.each q) ∙ any_distinct (λ t. reads_names d t.aspect) (held_by m q)

  writes : (q : ℕ) → (marks_at d (contender_at all q).touches).entry_written ≡ is_writer d (held_by m q)
  writes q = ap (λ (c : Contender). (marks_at d c.touches).entry_written) (kept.each q) ∙ any_distinct (λ t. changes_names d t.aspect t.write) (held_by m q) ∙ writer_held d m q
