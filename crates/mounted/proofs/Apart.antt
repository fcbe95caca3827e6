-- What a request about a node below a view does to times is seen in no other view.
use Rattle.std.proofs.Common.{◌≡◌, ◌≢◌, ◌⊎◌, inl, inr, ℕ, Bool, true, false, List, [], ◌∷◌, Option, Some, refl, sym, ap, subst, ◌∙◌, ne_eqb}
use Rattle.std.specs.Prelude.{Result, Ok, Err, ◌==◌}
use Rattle.fuse.specs.declared.forgets.Forget.{Forget}
use Rattle.fuse.specs.declared.reply.Reply.{Reply}
use Rattle.fuse.specs.declared.request.Operation.{Operation}
use Rattle.fuse.specs.declared.request.Operation.TheVariants as asked
use Rattle.machine.specs.Shown.{Shown}
use Rattle.nodes.specs.Tables.{root_of}
use Rattle.mount_tables.specs.Numbers.{class_of, view_of}
use Rattle.mount_tables.specs.declared.numbers.Class.{Class}
use Rattle.mount_tables.specs.declared.numbers.Class.TheVariants.{Tree, Transactions, Control}
use Rattle.view_times.specs.Known.{times_of}
use Rattle.view_times.specs.Known.{aborted as forgotten}
use Rattle.view_times.proofs.Calls.{stays}
use Rattle.mount_requests.specs.Apart.{AreApart, IsUnknownIn}
use Rattle.mount_requests.specs.Found.{stepper_at}
use Rattle.mount_requests.specs.Seen.{Seen}
use Rattle.mount_requests.specs.Times.{view_at, view_by}
use Rattle.mount_requests.specs.declared.failure.Failure.{Failure}
use Rattle.mount_requests.specs.declared.failure.Failure.TheVariants as failure
use Rattle.mount_requests.specs.declared.requests.Caller.{Caller}
use Rattle.mount_requests.specs.declared.tables.Stepper.{Stepper}
use Rattle.mount_requests.proofs.Apart.{answered_apart, apart_is, apart_same}
use Rattle.mounted.specs.Served.{IsServed, IsToldOf, Serves, ServesAt, ServesBy, ServesIn, ServesRoom, noted, with_forget, with_forgets}
use Rattle.mounted.specs.Served.ServesRoom.{HasRoom, IsFull, IsShort}
use Rattle.mounted.specs.Steppers.{TimesStayInView, is_release}
use Rattle.mounted.proofs.Viewing.{steps_at}

-- an abort of the view itself is seen in no other one
noted_apart : (s served : Seen) (view : ℕ) (r : Result Reply Failure) → AreApart s served view → AreApart s (noted served view r) view
noted_apart s served view (Ok reply) h = h
noted_apart s served view (Err (failure.Error e)) h = h
noted_apart s served view (Err (failure.Aborted why)) h = λ other inode away. by other inode away (h other inode away)
  where
    by : (other inode : ℕ) → other ≢ view → (times_of served.times other inode ≡ times_of s.times other inode) ⊎ IsUnknownIn s served other inode → (times_of (forgotten served.times view) other inode ≡ times_of s.times other inode) ⊎ IsUnknownIn s (noted served view (Err (failure.Aborted why))) other inode
    by other inode away (inl same) = inl (stays served.times view other inode away ∙ same)
    by other inode away (inr new) = inr (record { born = new.born; unknown = stays served.times view other inode away ∙ new.unknown })

module _ (s later : Seen) (who : Caller) (operation : Operation) (old new : Shown) (view : ℕ) (is : view_of (root_of s.nodes who.node) ≡ Some view) (live : view ≢ 0) where
  here : view_at s who.node ≡ view
  here = ap view_by is

  there : view_at s who.node ≢ 0
  there e = live (sym here ∙ e)

  -- by the process of its transaction
  in_apart : (b : Bool) (st : Stepper) (r : Result Reply Failure) → b ≡ false → st.view ≡ view → ServesIn b s later st who operation old new r → AreApart s later view
  in_apart true st r other same h = absurd cc
  in_apart false st r other same h =
      subst (λ (v : ℕ). AreApart s later v) same
      (subst (λ (z : Seen). AreApart s z st.view) (sym h.noted_is)
      (noted_apart s h.served st.view r (subst (λ (v : ℕ). AreApart s h.served v) (here ∙ sym same) (answered_apart s h.served st.pid who operation old new r there h.answers))))

  by_apart : (m : Result Stepper Failure) (r : Result Reply Failure) → m ≡ stepper_at s who.node → ServesBy m s later who operation old new r → AreApart s later view
  by_apart (Err e) r m h = apart_is s view h.2
  by_apart (Ok st) r m h =
      let same = (steps_at s who.node view st is live m).here in
      in_apart (st.view == 0) st r (ap (λ (v : ℕ). v == 0) same ∙ ne_eqb view 0 live) same h

  room_apart : (r : Result Reply Failure) → ServesRoom s later who operation old new r → AreApart s later view
  room_apart r (IsFull needs told) = apart_is s view told.2
  room_apart r (IsShort outcome needs want served is) = by_apart (stepper_at s who.node) outcome refl served
  room_apart r (HasRoom served) = by_apart (stepper_at s who.node) r refl served

  at_apart : (c : Class) (r : Result Reply Failure) → class_of who.node ≡ c → class_of who.node ≡ Tree → ServesAt c s later who operation old new r → AreApart s later view
  at_apart Tree r e tree h = room_apart r h
  at_apart Transactions r e tree h = absurd cc
  at_apart (Control ended) r e tree h = absurd cc

-- what is forgotten of nodes changes no time
forgets_same : (s : Seen) (fs : List Forget) → (with_forgets s fs).times ≡ s.times
forgets_same s [] = refl
forgets_same s (f ∷ fs) = forgets_same (with_forget s f.node f.lookups) fs

module _ (s later : Seen) (who : Caller) (old new : Shown) (view : ℕ) (tree : class_of who.node ≡ Tree) (is : view_of (root_of s.nodes who.node) ≡ Some view) (live : view ≢ 0) where
  serves_apart : (o : Operation) (r : Result Reply Failure) → is_release o ≡ false → Serves s later who o old new r → AreApart s later view
  serves_apart (asked.Init x y z w) r not h = apart_is s view h.2
  serves_apart asked.Destroy r not h = apart_is s view h.2
  serves_apart asked.StatFs r not h = apart_is s view h.2
  serves_apart (asked.Flush x) r not h = apart_is s view h.2
  serves_apart (asked.Fsync x) r not h = apart_is s view h.2
  serves_apart (asked.Release x y) r not h = absurd cc
  serves_apart (asked.ReleaseDir x) r not h = subst (λ (z : Seen). AreApart s z view) (sym h.2) (apart_same s view _ refl)
  serves_apart asked.ReadLink r not h = at_apart s later who asked.ReadLink old new view is live (class_of who.node) r refl tree h
  serves_apart asked.OpenDir r not h = at_apart s later who asked.OpenDir old new view is live (class_of who.node) r refl tree h
  serves_apart (asked.Lookup a) r not h = at_apart s later who (asked.Lookup a) old new view is live (class_of who.node) r refl tree h
  serves_apart (asked.GetAttr a) r not h = at_apart s later who (asked.GetAttr a) old new view is live (class_of who.node) r refl tree h
  serves_apart (asked.SetAttr a) r not h = at_apart s later who (asked.SetAttr a) old new view is live (class_of who.node) r refl tree h
  serves_apart (asked.ReadDir a b d) r not h = at_apart s later who (asked.ReadDir a b d) old new view is live (class_of who.node) r refl tree h
  serves_apart (asked.Access a) r not h = at_apart s later who (asked.Access a) old new view is live (class_of who.node) r refl tree h
  serves_apart (asked.SymLink a b) r not h = at_apart s later who (asked.SymLink a b) old new view is live (class_of who.node) r refl tree h
  serves_apart (asked.MkNod a b) r not h = at_apart s later who (asked.MkNod a b) old new view is live (class_of who.node) r refl tree h
  serves_apart (asked.MkDir a b) r not h = at_apart s later who (asked.MkDir a b) old new view is live (class_of who.node) r refl tree h
  serves_apart (asked.Unlink a) r not h = at_apart s later who (asked.Unlink a) old new view is live (class_of who.node) r refl tree h
  serves_apart (asked.RmDir a) r not h = at_apart s later who (asked.RmDir a) old new view is live (class_of who.node) r refl tree h
  serves_apart (asked.Rename a b d e) r not h = at_apart s later who (asked.Rename a b d e) old new view is live (class_of who.node) r refl tree h
  serves_apart (asked.Link a b) r not h = at_apart s later who (asked.Link a b) old new view is live (class_of who.node) r refl tree h
  serves_apart (asked.Create a b d e) r not h = at_apart s later who (asked.Create a b d e) old new view is live (class_of who.node) r refl tree h
  serves_apart (asked.Open a b) r not h = at_apart s later who (asked.Open a b) old new view is live (class_of who.node) r refl tree h
  serves_apart (asked.Read a b d e) r not h = at_apart s later who (asked.Read a b d e) old new view is live (class_of who.node) r refl tree h
  serves_apart (asked.Write a b d e f) r not h = at_apart s later who (asked.Write a b d e f) old new view is live (class_of who.node) r refl tree h
  serves_apart (asked.Lseek a b d) r not h = at_apart s later who (asked.Lseek a b d) old new view is live (class_of who.node) r refl tree h
  serves_apart (asked.Fallocate a b d e) r not h = at_apart s later who (asked.Fallocate a b d e) old new view is live (class_of who.node) r refl tree h
  serves_apart (asked.CopyFileRange a b d e f i j) r not h = at_apart s later who (asked.CopyFileRange a b d e f i j) old new view is live (class_of who.node) r refl tree h
  serves_apart (asked.Other a) r not h = at_apart s later who (asked.Other a) old new view is live (class_of who.node) r refl tree h
  serves_apart (asked.Forget a) r not h = at_apart s later who (asked.Forget a) old new view is live (class_of who.node) r refl tree h
  serves_apart (asked.BatchForget a) r not h = at_apart s later who (asked.BatchForget a) old new view is live (class_of who.node) r refl tree h
  serves_apart (asked.Interrupt a) r not h = at_apart s later who (asked.Interrupt a) old new view is live (class_of who.node) r refl tree h

  told_apart : (o : Operation) (answer : Option Reply) → is_release o ≡ false → IsToldOf s later who o old new answer → AreApart s later view
  told_apart (asked.Forget x) answer not h = subst (λ (z : Seen). AreApart s z view) (sym h.2) (apart_same s view _ refl)
  told_apart (asked.BatchForget fs) answer not h = subst (λ (z : Seen). AreApart s z view) (sym h.2) (apart_same s view _ (forgets_same s fs))
  told_apart (asked.Interrupt x) answer not h = apart_is s view h.2
  told_apart asked.ReadLink answer not h = serves_apart asked.ReadLink h.outcome not h.serves
  told_apart asked.OpenDir answer not h = serves_apart asked.OpenDir h.outcome not h.serves
  told_apart (asked.Lookup a) answer not h = serves_apart (asked.Lookup a) h.outcome not h.serves
  told_apart (asked.GetAttr a) answer not h = serves_apart (asked.GetAttr a) h.outcome not h.serves
  told_apart (asked.SetAttr a) answer not h = serves_apart (asked.SetAttr a) h.outcome not h.serves
  told_apart (asked.ReadDir a b d) answer not h = serves_apart (asked.ReadDir a b d) h.outcome not h.serves
  told_apart (asked.Access a) answer not h = serves_apart (asked.Access a) h.outcome not h.serves
  told_apart (asked.SymLink a b) answer not h = serves_apart (asked.SymLink a b) h.outcome not h.serves
  told_apart (asked.MkNod a b) answer not h = serves_apart (asked.MkNod a b) h.outcome not h.serves
  told_apart (asked.MkDir a b) answer not h = serves_apart (asked.MkDir a b) h.outcome not h.serves
  told_apart (asked.Unlink a) answer not h = serves_apart (asked.Unlink a) h.outcome not h.serves
  told_apart (asked.RmDir a) answer not h = serves_apart (asked.RmDir a) h.outcome not h.serves
  told_apart (asked.Rename a b d e) answer not h = serves_apart (asked.Rename a b d e) h.outcome not h.serves
  told_apart (asked.Link a b) answer not h = serves_apart (asked.Link a b) h.outcome not h.serves
  told_apart (asked.Create a b d e) answer not h = serves_apart (asked.Create a b d e) h.outcome not h.serves
  told_apart (asked.Open a b) answer not h = serves_apart (asked.Open a b) h.outcome not h.serves
  told_apart (asked.Read a b d e) answer not h = serves_apart (asked.Read a b d e) h.outcome not h.serves
  told_apart (asked.Write a b d e f) answer not h = serves_apart (asked.Write a b d e f) h.outcome not h.serves
  told_apart (asked.Lseek a b d) answer not h = serves_apart (asked.Lseek a b d) h.outcome not h.serves
  told_apart (asked.Fallocate a b d e) answer not h = serves_apart (asked.Fallocate a b d e) h.outcome not h.serves
  told_apart (asked.CopyFileRange a b d e f i j) answer not h = serves_apart (asked.CopyFileRange a b d e f i j) h.outcome not h.serves
  told_apart (asked.Other a) answer not h = serves_apart (asked.Other a) h.outcome not h.serves
  told_apart (asked.Init a b d e) answer not h = serves_apart (asked.Init a b d e) h.outcome not h.serves
  told_apart asked.Destroy answer not h = serves_apart asked.Destroy h.outcome not h.serves
  told_apart asked.StatFs answer not h = serves_apart asked.StatFs h.outcome not h.serves
  told_apart (asked.Flush a) answer not h = serves_apart (asked.Flush a) h.outcome not h.serves
  told_apart (asked.Fsync a) answer not h = serves_apart (asked.Fsync a) h.outcome not h.serves
  told_apart (asked.Release a b) answer not h = serves_apart (asked.Release a b) h.outcome not h.serves
  told_apart (asked.ReleaseDir a) answer not h = serves_apart (asked.ReleaseDir a) h.outcome not h.serves

pub served_apart : (s later : Seen) (who : Caller) (o : Operation) (old new : Shown) (answer : Option Reply) → is_release o ≡ false → IsServed s later who o old new answer → TimesStayInView s later who.node
served_apart s later who o old new answer not h tree view is live = told_apart s later who old h.mid view tree is live o answer not h.is
