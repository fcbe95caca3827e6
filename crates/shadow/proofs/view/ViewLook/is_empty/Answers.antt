use Rattle.std.proofs.Common.{◌≡◌, sym, ap, ◌∙◌, option_copied}
use Rattle.model.specs.FiniteMap.{get, keys}
use Rattle.model.specs.State.{names_of, names_of_inode}
use Rattle.model.specs.Paths.{is_empty}
use Rattle.notes.specs.Patches.{net_of, patched}
use Rattle.notes.proofs.Laws.{no_keys}
use Rattle.shadow.proofs.view.ViewLook.is_empty.Goals as goal

pub returns : goal.returns
returns c =
    let below = c.self.inside.stable.now.state in
    let kept : names_of below c.args.dir ≡ names_of c.args.self.now.state c.args.dir =
    sym (ap (λ r. names_of_inode (patched (net_of (option_copied r)).contents (get below.inodes c.args.dir))) c.in-None.is)
    ∙ sym (ap names_of_inode (c.change.ensures.inode below c.self.invariant)) ∙ ap (λ s. names_of s.state c.args.dir) c.self.view_is in
    c.is_empty.ensures ∙ no_keys c.directory-stored.result.now.names ∙ ap (λ names. is_empty (keys names)) (c.directory-stored.ensures ∙ kept)
