use mathlib.Core.Path.{sym, ap, subst, ◌∙◌}
use Prim.Native.Nat.{◌<◌}
use native.Mathlib.Omega.{arith}
use borrow.Author.Rules.{rules}
use Rattle.tables.specs.SchemaTable.{schema_of, places_in, key_in}
use Rattle.tables.specs.declared.index.Index.{Index}
use Rattle.table_test.proofs.Laws.IndexTest.{group-bucket, name-bucket, path-bucket}
use Rattle.table_test.proofs.index_test.key_in.Goals as goal

pub overflow_mul-i : goal.overflow_mul-i
overflow_mul-i c =
    let h = subst (λ (x : Index). c.args.i < places_in (schema_of c.args.t.now) x) c.in-Groups.is c.requires.i_bound in
    search rules

pub overflow_add-i : goal.overflow_add-i
overflow_add-i c =
    let h = subst (λ (x : Index). c.args.i < places_in (schema_of c.args.t.now) x) c.in-Groups.is c.requires.i_bound in
    search rules

pub path_bucket_at-requires : goal.path_bucket_at-requires
path_bucket_at-requires c =
    let h = subst (λ (x : Index). c.args.i < places_in (schema_of c.args.t.now) x) c.in-Groups.is c.requires.i_bound in
    omega (arith, c.requires.counted.size, c.requires.counted.groups, c.requires.counted.groups_few)

pub overflow_mul-i-in-Names : goal.overflow_mul-i-in-Names
overflow_mul-i-in-Names c =
    let h = subst (λ (x : Index). c.args.i < places_in (schema_of c.args.t.now) x) c.in-Names.is c.requires.i_bound in
    search rules

pub overflow_add-i-in-Names : goal.overflow_add-i-in-Names
overflow_add-i-in-Names c =
    let h = subst (λ (x : Index). c.args.i < places_in (schema_of c.args.t.now) x) c.in-Names.is c.requires.i_bound in
    search rules

pub name_bucket_at-requires : goal.name_bucket_at-requires
name_bucket_at-requires c =
    let h = subst (λ (x : Index). c.args.i < places_in (schema_of c.args.t.now) x) c.in-Names.is c.requires.i_bound in
    omega (arith, c.requires.counted.size, c.requires.counted.rows, c.requires.counted.rows_few)

pub overflow_mul-i-in-Paths : goal.overflow_mul-i-in-Paths
overflow_mul-i-in-Paths c =
    let h = subst (λ (x : Index). c.args.i < places_in (schema_of c.args.t.now) x) c.in-Paths.is c.requires.i_bound in
    search rules

pub overflow_add-i-in-Paths : goal.overflow_add-i-in-Paths
overflow_add-i-in-Paths c =
    let h = subst (λ (x : Index). c.args.i < places_in (schema_of c.args.t.now) x) c.in-Paths.is c.requires.i_bound in
    search rules

pub path_bucket_at-requires-in-Paths : goal.path_bucket_at-requires-in-Paths
path_bucket_at-requires-in-Paths c =
    let h = subst (λ (x : Index). c.args.i < places_in (schema_of c.args.t.now) x) c.in-Paths.is c.requires.i_bound in
    omega (arith, c.requires.counted.size, c.requires.counted.rows, c.requires.counted.rows_few)

pub returns-in-Groups : goal.returns-in-Groups
returns-in-Groups c =
    let h = subst (λ (x : Index). c.args.i < places_in (schema_of c.args.t.now) x) c.in-Groups.is c.requires.i_bound in record { value = c.path_bucket_at.ensures.value ∙ group-bucket c.args.t.now c.requires.counted c.args.i h ∙ ap (λ (x : Index). key_in (schema_of c.args.t.now) x c.args.i) (sym c.in-Groups.is); upper_bound = c.path_bucket_at.ensures.upper_bound }

pub returns-in-Names : goal.returns-in-Names
returns-in-Names c =
    let h = subst (λ (x : Index). c.args.i < places_in (schema_of c.args.t.now) x) c.in-Names.is c.requires.i_bound in record { value = c.name_bucket_at.ensures.value ∙ name-bucket c.args.t.now c.requires.counted c.args.i h ∙ ap (λ (x : Index). key_in (schema_of c.args.t.now) x c.args.i) (sym c.in-Names.is); upper_bound = c.name_bucket_at.ensures.upper_bound }

pub returns-in-Paths : goal.returns-in-Paths
returns-in-Paths c =
    let h = subst (λ (x : Index). c.args.i < places_in (schema_of c.args.t.now) x) c.in-Paths.is c.requires.i_bound in record { value = c.path_bucket_at-in-Paths.ensures.value ∙ path-bucket c.args.t.now c.requires.counted c.args.i h ∙ ap (λ (x : Index). key_in (schema_of c.args.t.now) x c.args.i) (sym c.in-Paths.is); upper_bound = c.path_bucket_at-in-Paths.ensures.upper_bound }
