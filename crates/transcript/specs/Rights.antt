-- How permissions and owners are printed.
use Rattle.std.specs.Prelude.{ℕ, ◌+◌, ◌/◌, ◌%◌, ◌==◌, ◌&&◌, nat_lt, List, [], ◌∷◌, ◌++◌}
use Rattle.std.specs.Prelude.{Option, Some, None, codes, decimal, if◌then◌else◌}
use Rattle.ids.specs.Rights.{first_permissions}
use Rattle.ids.specs.declared.reply.Kind.{Kind}
use Rattle.ids.specs.declared.rights.NewOwner.{NewOwner}
use Rattle.ids.specs.declared.rights.Owner.{Owner}
use Rattle.ids.specs.declared.rights.Rights.{Rights}

-- the last octal digit of a number
abbrev pub octal_digit : ℕ → ℕ
octal_digit n = 48 + n % 8

-- a number of at most four octal digits, with no zero before others
abbrev pub octal : ℕ → List ℕ
octal n =
    if nat_lt n 8 then octal_digit n ∷ []
    else if nat_lt n 64 then octal_digit (n / 8) ∷ octal_digit n ∷ []
    else if nat_lt n 512 then octal_digit (n / 64) ∷ octal_digit (n / 8) ∷ octal_digit n ∷ []
    else octal_digit (n / 512) ∷ octal_digit (n / 64) ∷ octal_digit (n / 8) ∷ octal_digit n ∷ []

-- a new user or group behind a space, and `-` where it stays as it is
abbrev pub id_text : Option ℕ → List ℕ
id_text (Some n) = codes " " ++ decimal n
id_text None = codes " -"

abbrev pub new_owner_text : NewOwner → List ℕ
new_owner_text owner = id_text owner.user ++ id_text owner.group

-- permissions, where they are not the first ones of the kind
abbrev pub mode_text : Kind → ℕ → List ℕ
mode_text kind permissions =
    if permissions == first_permissions (Some kind) then []
    else codes " mode " ++ octal permissions

-- an owner, where it is not the first one, of user 0 and group 0
abbrev pub owner_text : Owner → List ℕ
owner_text owner =
    if owner.user == 0 && owner.group == 0 then []
    else codes " owner " ++ decimal owner.user ++ codes " " ++ decimal owner.group

abbrev pub rights_text : Kind → Rights → List ℕ
rights_text kind rights = mode_text kind rights.permissions ++ owner_text rights.owner
