mod SavedLaws
