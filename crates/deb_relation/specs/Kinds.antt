-- What may stand in each kind of field (Debian Policy 7.1).
use Rattle.std.specs.Prelude.{Bool, true, false}
use Rattle.deb_relation.specs.declared.kind.Kind.{Kind}
use Rattle.deb_relation.specs.declared.kind.Kind.TheVariants.{Need, Clash, Provide, BuildNeed, BuildClash}

abbrev pub is_provide : Kind → Bool
is_provide Need = false
is_provide Clash = false
is_provide Provide = true
is_provide BuildNeed = false
is_provide BuildClash = false

-- alternatives stand in the fields that state needs alone
abbrev pub has_alternatives : Kind → Bool
has_alternatives Need = true
has_alternatives Clash = false
has_alternatives Provide = false
has_alternatives BuildNeed = true
has_alternatives BuildClash = false

-- architectures and profiles restrict the relations of builds
abbrev pub has_restrictions : Kind → Bool
has_restrictions Need = false
has_restrictions Clash = false
has_restrictions Provide = false
has_restrictions BuildNeed = true
has_restrictions BuildClash = true
