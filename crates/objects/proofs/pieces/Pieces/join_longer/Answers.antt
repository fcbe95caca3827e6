use Rattle.std.proofs.Common.{◌≡◌, ℕ, ◌+◌, ◌*◌, ◌/◌, ◌%◌, ap₂, append-nil, ◌<◌, ◌≤◌, ◌∷◌, ◌++◌, List, [], length, get_or, sym, ap, subst, ◌∙◌, arith, inl, inr}
use Rattle.std.proofs.Math.ListN.{set}
use Rattle.std.proofs.lemmas.List.{get_or_default, length-set, set-set}
use Rattle.objects.specs.Contents.{Content}
use Rattle.objects.specs.Pieces.{JoinedFrom, piece_in, piece_of}
use Rattle.objects.specs.declared.group.TheConstants.{GROUP_LEN}
use Rattle.objects.proofs.Joins.{groups_at_start, joined_group, left_less, left_long, low_place, popped}
use Rattle.objects.proofs.pieces.Pieces.join_longer.Goals as goal

pub loop-group-init : goal.loop-group-init
loop-group-init c = record {
  rest = [];
  left = sym c.self.view_is ∙ sym (append-nil c.self.inside.groups.items);
  count = ap length c.long.view_is;
  joined = subst (JoinedFrom piece_of (length c.self.inside.groups.items * GROUP_LEN) c.args.self c.args.long) (sym c.long.view_is)
      (groups_at_start c.args.self c.args.long (length c.self.inside.groups.items) (ap length (sym c.self.view_is)));
}

pub join-requires : goal.join-requires
join-requires c =
    let now : List (List Content) = c.loop-group.long-inside.groups.items in
    let new : List (List Content) = c.pop.new.self.items in
    let rest : List (List Content) = c.loop-group.invariant.rest in
    let k : c.len-index.result ≡ length new = c.len-index.ensures ∙ c.pop.new.self.ok.0 in
    let end : c.loop-group.groups.items ≡ new ++ c.in-Some.group ∷ [] = c.in-Some.ensures.items in
    let low : length new < length now = low_place c.args.self c.args.long now c.loop-group.groups.items new rest c.in-Some.group c.loop-group.invariant.left end c.loop-group.invariant.count c.requires.fits in
    let here : c.replace-before.result ≡ get_or now (length new) [] = c.replace-before.ensures.value ∙ c.index_mut.ensures.value ∙ ap (λ i. get_or now i c.index_mut.result.now) k ∙ get_or_default now (length new) c.index_mut.result.now [] low in
    let mine : get_or c.args.self (length new) [] ≡ c.in-Some.group = popped c.args.self c.loop-group.groups.items new rest c.in-Some.group [] c.loop-group.invariant.left end in
    let so_far : JoinedFrom piece_of ((length new + 1) * GROUP_LEN) c.args.self c.args.long now = subst (λ n. JoinedFrom piece_of (n * GROUP_LEN) c.args.self c.args.long now) (left_long c.loop-group.groups.items new c.in-Some.group end) c.loop-group.invariant.joined in
    λ i small.
    let n : ℕ = length new * GROUP_LEN + i in
    let group : n / GROUP_LEN ≡ length new = omega (arith, small) in
    let is_index : n % GROUP_LEN ≡ i = omega (arith, small) in
    let of_self : piece_of c.args.self n ≡ piece_in c.in-Some.group i = ap₂ (λ g j. piece_in (get_or c.args.self g []) j) group is_index ∙ ap (λ (g : List Content). piece_in g i) mine in
    let of_now : piece_of now n ≡ piece_in c.replace-before.result i = ap₂ (λ g j. piece_in (get_or now g []) j) group is_index ∙ ap (λ (g : List Content). piece_in g i) (sym here) in
    let before : piece_of now n ≡ piece_of c.args.long n = so_far.below n (omega (arith, small)) in
    elim (c.requires.apart n) [
      | inl none ↦ inl (ap (λ (p : Content). p.bytes) (sym of_self) ∙ none)
      | inr none ↦ inr (ap (λ (p : Content). p.bytes) (sym of_now ∙ before) ∙ none)
    ]

pub loop-group-preserved : goal.loop-group-preserved
loop-group-preserved c =
    let now : List (List Content) = c.loop-group.long-inside.groups.items in
    let new : List (List Content) = c.pop.new.self.items in
    let rest : List (List Content) = c.loop-group.invariant.rest in
    let k : c.len-index.result ≡ length new = c.len-index.ensures ∙ c.pop.new.self.ok.0 in
    let end : c.loop-group.groups.items ≡ new ++ c.in-Some.group ∷ [] = c.in-Some.ensures.items in
    let low : length new < length now = low_place c.args.self c.args.long now c.loop-group.groups.items new rest c.in-Some.group c.loop-group.invariant.left end c.loop-group.invariant.count c.requires.fits in
    let here : c.replace-before.result ≡ get_or now (length new) [] = c.replace-before.ensures.value ∙ c.index_mut.ensures.value ∙ ap (λ i. get_or now i c.index_mut.result.now) k ∙ get_or_default now (length new) c.index_mut.result.now [] low in
    let mine : get_or c.args.self (length new) [] ≡ c.in-Some.group = popped c.args.self c.loop-group.groups.items new rest c.in-Some.group [] c.loop-group.invariant.left end in
    let so_far : JoinedFrom piece_of ((length new + 1) * GROUP_LEN) c.args.self c.args.long now = subst (λ n. JoinedFrom piece_of (n * GROUP_LEN) c.args.self c.args.long now) (left_long c.loop-group.groups.items new c.in-Some.group end) c.loop-group.invariant.joined in
    let twice : set (set now c.len-index.result c.replace-before.new.dest) c.len-index.result c.join.result ≡ set now (length new) c.join.result = set-set now c.len-index.result c.replace-before.new.dest c.join.result ∙ ap (λ i. set now i c.join.result) k in
    let one_is : (i : ℕ) → piece_in (get_or c.args.self (length new) []) i ≡ piece_in c.in-Some.group i = λ i. ap (λ (g : List Content). piece_in g i) mine in
    let now_is : (i : ℕ) → piece_in (get_or now (length new) []) i ≡ piece_in c.replace-before.result i = λ i. ap (λ (g : List Content). piece_in g i) (sym here) in
    record {
      rest = c.in-Some.group ∷ rest;
      left = left_less c.args.self c.loop-group.groups.items new rest c.in-Some.group c.loop-group.invariant.left end;
      count = ap length twice ∙ length-set now (length new) c.join.result ∙ c.loop-group.invariant.count;
      joined = subst (JoinedFrom piece_of (length new * GROUP_LEN) c.args.self c.args.long) (sym twice)
          (joined_group c.args.self c.args.long now (length new) c.join.result low so_far
          (λ i none. c.join.ensures.first i (ap (λ (p : Content). p.bytes) (sym (now_is i)) ∙ none) ∙ ap (λ (p : Content). p.bytes) (sym (one_is i)))
          (λ i none. c.join.ensures.second i (ap (λ (p : Content). p.bytes) (sym (one_is i)) ∙ none) ∙ ap (λ (p : Content). p.bytes) (sym (now_is i)))
          (λ i. (subst (λ (p : Content). p.room ≤ (piece_in c.join.result i).room) (sym (one_is i)) (c.join.ensures.rooms i).0, subst (λ (p : Content). p.room ≤ (piece_in c.join.result i).room) (sym (now_is i)) (c.join.ensures.rooms i).1)));
    }
