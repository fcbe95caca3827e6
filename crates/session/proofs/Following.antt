-- One turn of a session after the other.
use Rattle.std.proofs.Common.{◌≡◌, ℕ, List, [], ◌∷◌, ◌++◌, Option, Some, None, refl, sym, ap, ◌∙◌, append_assoc}
use Rattle.std.proofs.lemmas.List.{append-nil}
use Rattle.fuse.specs.declared.reply.Reply.{Reply}
use Rattle.fuse.specs.declared.request.Request.{Request}
use Rattle.session.specs.Messages.{with_messages}
use Rattle.session.specs.Sessions.{GoesOn, IsHandled, Session}
use Rattle.session.proofs.Answering.{session_answers}

-- no further message
none_more : (known : Option (List (List ℕ))) → known ≡ with_messages known []
none_more None = refl
none_more (Some all) = ap (λ (xs : List (List ℕ)). Some xs) (sym (append-nil all))

-- further ones, and others behind them
both_more : (known : Option (List (List ℕ))) (first others : List (List ℕ))
    → with_messages (with_messages known first) others ≡ with_messages known (first ++ others)
both_more None first others = refl
both_more (Some all) first others = ap (λ (xs : List (List ℕ)). Some xs) (append_assoc all first others)

module _ {S : Type 0} (serves : S → Request → Option Reply → S → Type 0) where
  -- a session and another behind it
  session_then : (a b c : S) (heard more said others : List (List ℕ)) → Session serves a heard said b → Session serves b more others c
      → Session serves a (heard ++ more) (said ++ others) c
  session_then a b c [] more said others s t = rw s.0 (rw s.1 at t)
  session_then a b c (m ∷ rest) more said others s t =
      (s.0, s.1, s.2 ++ others, rw s.3 (append_assoc s.1 s.2 others), s.4, session_then s.0 b c rest more s.2 others s.5 t)

  -- nothing was read
  pub stays : (a : S) (heard said : Option (List (List ℕ))) → GoesOn serves a a heard heard said said
  stays a heard said = record {
    heard = [];
    said = [];
    reads = none_more heard;
    writes = none_more said;
    session = (refl, refl);
    answered = tt;
  }

  -- a message was read and handled
  pub handled : (a b : S) (m : List ℕ) (h i s t : Option (List (List ℕ))) → i ≡ with_messages h (m ∷ []) → IsHandled serves a b m s t
      → GoesOn serves a b h i s t
  handled a b m h i s t reads is =
      let session : Session serves a (m ∷ []) is.said b = (b, is.said, [], sym (append-nil is.said), is.handles, (refl, refl)) in
      record {
        heard = m ∷ [];
        said = is.said;
        reads = reads;
        writes = is.writes;
        session = session;
        answered = session_answers serves a b (m ∷ []) is.said session;
      }

  -- a session went on, and then further
  pub goes_further : (a b c : S) (h i j s t u : Option (List (List ℕ))) → GoesOn serves a b h i s t → GoesOn serves b c i j t u
      → GoesOn serves a c h j s u
  goes_further a b c h i j s t u one two =
      let session : Session serves a (one.heard ++ two.heard) (one.said ++ two.said) c =
      session_then a b c one.heard two.heard one.said two.said one.session two.session in
      record {
        heard = one.heard ++ two.heard;
        said = one.said ++ two.said;
        reads = two.reads ∙ ap (λ k. with_messages k two.heard) one.reads ∙ both_more h one.heard two.heard;
        writes = two.writes ∙ ap (λ k. with_messages k two.said) one.writes ∙ both_more s one.said two.said;
        session = session;
        answered = session_answers serves a c (one.heard ++ two.heard) (one.said ++ two.said) session;
      }
