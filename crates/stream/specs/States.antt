-- What the steps of a stream do to its fields.
use Rattle.std.specs.Prelude.{◌≡◌, ℕ, List, [], Bool, true, false, ⊤, Option, Some, None}
use Rattle.std.specs.Prelude.{option_map}
use Rattle.machine.specs.Shown.{Shown, Kept}
use Rattle.stream.specs.Heard.{CannotForget, Comes, HasGrown, IsFollowed, StopsAt}
use Rattle.stream.specs.declared.fault.StreamFault.{StreamFault}
use Rattle.stream.specs.declared.follower.Follower.{Follower}
use Rattle.stream.specs.declared.heard.Heard.{Heard}
use Rattle.stream.specs.declared.state.Setting.{Setting}
use Rattle.stream.specs.declared.state.Stream.{Stream}
use Rattle.ids.specs.Bounds.{bounds_of}

-- nothing has come yet
pub record IsFresh {K : Type 0} (stream : Stream K) : Type 0 where
  pub kernel : stream.kernel ≡ None
  pub follower : stream.follower ≡ None
  pub line : stream.line.items ≡ []
  pub number : stream.number ≡ 1
  pub good : stream.good ≡ true

-- the follower of a fresh kernel's history, if a check is wanted
abbrev pub IsFollowerOf : Setting → List ℕ → Option Follower → Type 0
IsFollowerOf setting priorities None = setting.check ≡ false
IsFollowerOf setting priorities (Some follower) =
    (setting.check ≡ true)
    × (follower.count ≡ 0)
    × (follower.checker ≡ record {
      root = 0;
      setup = record { priorities = priorities; bounds = bounds_of setting.limits };
      entries = [];
    })

-- what a line is, and what was heard before it, are as they were
pub record IsSameLine {K : Type 0} (old new : Stream K) : Type 0 where
  pub line : new.line.items ≡ old.line.items
  pub number : new.number ≡ old.number
  pub good : new.good ≡ old.good

-- A fresh kernel with these priorities and the limits of the setting, and its follower.
pub record HasBegun
    {K : Type 0} (shown : K → Shown) (setting : Setting) (priorities : List ℕ)
    (old new : Stream K)
    : Type 0 where
  pub kernel : K
  pub made : new.kernel ≡ Some kernel
  pub kept : Kept (shown kernel)
  pub log : (shown kernel).log ≡ record {
    entries = [];
    priorities = priorities;
    limit = setting.limits.entries;
    forgotten = [];
    bounds = bounds_of setting.limits;
  }
  pub follower : IsFollowerOf setting priorities new.follower
  pub same : IsSameLine old new

-- The line that the stream has is done, and has come to this.
pub record IsHeard
    {K : Type 0} (shown : K → Shown) (setting : Setting) (old new : Stream K) (what : Heard)
    : Type 0 where
  pub comes : Comes old.number old.line.items setting.limits
      (option_map shown old.kernel) (option_map shown new.kernel) what
  pub followed : IsFollowed setting.check old.follower (option_map shown old.kernel)
      → IsFollowed setting.check new.follower (option_map shown new.kernel)
  pub same : IsSameLine old new

-- the kernel, if there is one, has made no entry
abbrev pub StaysAlike : (old new : Option Shown) → Type 0
StaysAlike None None = ⊤
StaysAlike None (Some new) = ⊥
StaysAlike (Some old) None = ⊥
StaysAlike (Some old) (Some new) = HasGrown old new []

-- The line is not done, and this is why.
pub record IsNotHeard
    {K : Type 0} (shown : K → Shown) (setting : Setting) (old new : Stream K) (why : StreamFault)
    : Type 0 where
  pub alike : StaysAlike (option_map shown old.kernel) (option_map shown new.kernel)
  pub stops : IsFollowed setting.check old.follower (option_map shown old.kernel)
      → StopsAt old.number old.line.items (option_map shown new.kernel) why

-- All that was kept is checked, if that is wanted, and forgotten, where that can be.
pub record IsSettled {K : Type 0} (shown : K → Shown) (old new : Stream K) : Type 0 where
  pub alike : StaysAlike (option_map shown old.kernel) (option_map shown new.kernel)
  pub followed : (check : Bool) → IsFollowed check old.follower (option_map shown old.kernel)
      → IsFollowed check new.follower (option_map shown new.kernel)
  pub same : IsSameLine old new

-- why what is kept is not forgotten, if there is a kernel
abbrev pub CannotSettle : Option Shown → StreamFault → Type 0
CannotSettle None why = ⊥
CannotSettle (Some kernel) why = CannotForget kernel.log why

-- It is not forgotten, and this is why.
pub record IsNotSettled
    {K : Type 0} (shown : K → Shown) (old new : Stream K) (why : StreamFault)
    : Type 0 where
  pub alike : StaysAlike (option_map shown old.kernel) (option_map shown new.kernel)
  pub fault : (check : Bool) → IsFollowed check old.follower (option_map shown old.kernel)
      → CannotSettle (option_map shown new.kernel) why
