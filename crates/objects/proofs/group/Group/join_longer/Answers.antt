use Rattle.std.proofs.Common.{◌≡◌, ◌+◌, append-nil, ◌<◌, ◌≤◌, ◌∷◌, ◌++◌, List, [], length, get_or, sym, ap, subst, ◌∙◌, arith, inl, inr}
use Rattle.std.proofs.Math.ListN.{set}
use Rattle.std.proofs.lemmas.List.{get_or_default, length-set}
use Rattle.objects.specs.Contents.{Content}
use Rattle.objects.specs.Pieces.{JoinedFrom, no_piece, piece_in}
use Rattle.objects.proofs.Joins.{at_start, joined_more, low_in, left_less, left_long, low_place, popped}
use Rattle.objects.proofs.group.Group.join_longer.Goals as goal

pub loop-piece-init : goal.loop-piece-init
loop-piece-init c = record {
  rest = [];
  left = sym c.self.view_is ∙ sym (append-nil c.self.inside.pieces.items);
  count = ap length c.long.view_is;
  joined = subst (JoinedFrom piece_in (length c.self.inside.pieces.items) c.args.self c.args.long) (sym c.long.view_is)
      (at_start c.args.self c.args.long (length c.self.inside.pieces.items) (ap length (sym c.self.view_is)));
}

pub join-requires : goal.join-requires
join-requires c =
    let now : List Content = c.loop-piece.long-inside.pieces.items in
    let new : List Content = c.pop.new.self.items in
    let k : c.len.result ≡ length new = c.len.ensures ∙ c.pop.new.self.ok.0 in
    let end : c.loop-piece.pieces.items ≡ new ++ c.in-Some.piece ∷ [] = c.in-Some.ensures.items in
    let low : length new < length now = low_place c.args.self c.args.long now c.loop-piece.pieces.items new c.loop-piece.invariant.rest c.in-Some.piece c.loop-piece.invariant.left end c.loop-piece.invariant.count c.requires.fits in
    let here : c.index_mut.result.now ≡ piece_in now (length new) = c.index_mut.ensures.value ∙ ap (λ i. get_or now i c.index_mut.result.now) k ∙ get_or_default now (length new) c.index_mut.result.now no_piece low in
    let before : piece_in now (length new) ≡ piece_in c.args.long (length new) = c.loop-piece.invariant.joined.below (length new) (let more = left_long c.loop-piece.pieces.items new c.in-Some.piece end in omega (arith, more)) in
    let mine : piece_in c.args.self (length new) ≡ c.in-Some.piece = popped c.args.self c.loop-piece.pieces.items new c.loop-piece.invariant.rest c.in-Some.piece no_piece c.loop-piece.invariant.left end in
    elim (c.requires.apart (length new) (let fits = c.self.invariant in let items : length c.self.inside.pieces.items ≡ length c.args.self = ap length c.self.view_is in let count = c.self.inside.pieces.ok.0 in let long = low_in c.args.self c.loop-piece.pieces.items new c.loop-piece.invariant.rest c.in-Some.piece c.loop-piece.invariant.left end in omega (arith, fits, items, count, long))) [
      | inl none ↦ inr (ap (λ (p : Content). p.bytes) (sym mine) ∙ none)
      | inr none ↦ inl (ap (λ (p : Content). p.bytes) (here ∙ before) ∙ none)
    ]

pub loop-piece-preserved : goal.loop-piece-preserved
loop-piece-preserved c =
    let now : List Content = c.loop-piece.long-inside.pieces.items in
    let new : List Content = c.pop.new.self.items in
    let rest : List Content = c.loop-piece.invariant.rest in
    let k : c.len.result ≡ length new = c.len.ensures ∙ c.pop.new.self.ok.0 in
    let end : c.loop-piece.pieces.items ≡ new ++ c.in-Some.piece ∷ [] = c.in-Some.ensures.items in
    let low : length new < length now = low_place c.args.self c.args.long now c.loop-piece.pieces.items new rest c.in-Some.piece c.loop-piece.invariant.left end c.loop-piece.invariant.count c.requires.fits in
    let here : c.index_mut.result.now ≡ piece_in now (length new) = c.index_mut.ensures.value ∙ ap (λ i. get_or now i c.index_mut.result.now) k ∙ get_or_default now (length new) c.index_mut.result.now no_piece low in
    let mine : piece_in c.args.self (length new) ≡ c.in-Some.piece = popped c.args.self c.loop-piece.pieces.items new rest c.in-Some.piece no_piece c.loop-piece.invariant.left end in
    let so_far : JoinedFrom piece_in (length new + 1) c.args.self c.args.long now = subst (λ n. JoinedFrom piece_in n c.args.self c.args.long now) (left_long c.loop-piece.pieces.items new c.in-Some.piece end) c.loop-piece.invariant.joined in
    let first : (piece_in now (length new)).bytes ≡ [] → c.join.new.self.bytes ≡ (piece_in c.args.self (length new)).bytes =
    λ none. c.join.ensures.second (ap (λ (p : Content). p.bytes) here ∙ none) ∙ ap (λ (p : Content). p.bytes) (sym mine) in
    let second : (piece_in c.args.self (length new)).bytes ≡ [] → c.join.new.self.bytes ≡ (piece_in now (length new)).bytes =
    λ none. c.join.ensures.first (ap (λ (p : Content). p.bytes) (sym mine) ∙ none) ∙ ap (λ (p : Content). p.bytes) here in
    let room_mine : (piece_in c.args.self (length new)).room ≤ c.join.new.self.room = subst (λ (p : Content). p.room ≤ c.join.new.self.room) (sym mine) c.join.ensures.other in
    let room_theirs : (piece_in now (length new)).room ≤ c.join.new.self.room = subst (λ (p : Content). p.room ≤ c.join.new.self.room) here c.join.ensures.room in
    record {
      rest = c.in-Some.piece ∷ rest;
      left = left_less c.args.self c.loop-piece.pieces.items new rest c.in-Some.piece c.loop-piece.invariant.left end;
      count = length-set now c.len.result c.join.new.self ∙ c.loop-piece.invariant.count;
      joined = subst (λ i. JoinedFrom piece_in (length new) c.args.self c.args.long (set now i c.join.new.self)) (sym k)
          (joined_more c.args.self c.args.long now (length new) c.join.new.self low so_far first second room_mine room_theirs);
    }
